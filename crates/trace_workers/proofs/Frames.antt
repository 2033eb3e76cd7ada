-- The frame at the front is handled, or shows how its session ends.
use Rattle.std.proofs.Common.{◌≡◌, ◌≢◌, ◌⊎◌, ℕ, ◌+◌, Bool, true, List, ◌++◌, length, drop, Option, None, MatchBool, refl, sym, ap, subst, ◌∙◌, arith, inl, inr, [], ◌∷◌, false}
use Rattle.std.specs.Prelude.{is_some}
use Rattle.std.proofs.lemmas.Option.{same_Some}
use Rattle.audit.specs.declared.account.Call.{Call}
use Rattle.audit.specs.declared.account.CallHow.{CallHow}
use Rattle.audit.specs.declared.account.CallHow.TheVariants.{Parked, Cut}
use Rattle.audit.specs.declared.account.SessionEnd.{SessionEnd}
use Rattle.audit.specs.declared.account.SessionEnd.TheVariants.{CallsFull, Refused}
use Rattle.audit.specs.declared.account.TheConstants.{MOST_CALLS}
use Rattle.audit.specs.declared.account.Transcript.{Transcript}
use Rattle.audit.specs.Fits.{is_answered}
use Rattle.audit.specs.RunOf.{IsNotCut}
use Rattle.kwire.specs.declared.frame.Frame.TheVariants.{Whole}
use Rattle.kwire.specs.Frames.{IsFrameBody, framed, next_frame_of}
use Rattle.purgatory.specs.declared.outcome.Done.{Done}
use Rattle.room_core.specs.declared.event.How.{How}
use Rattle.room_table.specs.Seats.{CallerView}
use Rattle.shared_broker.specs.declared.calling.Handled.{Handled}
use Rattle.shared_broker.specs.Calling.{HasCalled, HasHandledAs, IsAnsweredAs, IsEndFor, IsMadeOfReply, how_by, told_as}
use Rattle.shared_broker.specs.Collecting.{HasCompleted}
use Rattle.shared_broker.specs.Passes.{BrokerView, PassView, calls_made}
use Rattle.trace_workers.specs.declared.print_part.PrintPart.{PrintPart}
use Rattle.trace_workers.specs.Ending.{EndsSo, MayEndSo}
use Rattle.trace_workers.specs.Received.{HasReceived}
use Rattle.trace_workers.specs.Sessions.{SessionView}
use Rattle.trace_workers.specs.Telling.{AreKept, HasPut}
use Rattle.trace_workers.proofs.Fronts.{trace_end}
use Rattle.trace_workers.proofs.Going.{called, completed, handled_of, named_of, received_of}
use Rattle.trace_workers.proofs.Telling.{kept_front, kept_more, kept_on, kept_same}
use Rattle.trace_workers.proofs.Transcripts.{goes_on, made_all}

-- ---- how a call is told that was answered

how_whole : (how : How) (by : ℕ) (won : Option ℕ) → how_by how by ≢ Cut won
how_whole How.Satisfied by won e = absurd cc
how_whole How.Expired by won e = absurd cc

how_over : (how : How) (by : ℕ) → how_by how by ≢ Parked
how_over How.Satisfied by e = absurd cc
how_over How.Expired by e = absurd cc

pub told_whole : (done : Done) (won : Option ℕ) → told_as done ≢ Cut won
told_whole done won = how_whole done.how done.by won

pub told_over : (done : Done) → told_as done ≢ Parked
told_over done = how_over done.how done.by

answered_whole : (how : CallHow) (old new : CallerView) → IsAnsweredAs how old new → (won : Option ℕ) → how ≢ Cut won
answered_whole how old new (inl at_once) won e = absurd cc
answered_whole how old new (inr told) won e = told_whole told.1 won (sym told.7 ∙ e)

answered_over : (how : CallHow) (old new : CallerView) → IsAnsweredAs how old new → how ≢ Parked
answered_over how old new (inl at_once) e = absurd cc
answered_over how old new (inr told) e = told_over told.1 (sym told.7 ∙ e)

how_answered : (how : How) (by : ℕ) → is_answered (how_by how by) ≡ true
how_answered How.Satisfied by = refl
how_answered How.Expired by = refl

told_answered : (done : Done) → is_answered (told_as done) ≡ true
told_answered done = how_answered done.how done.by

answered_is : (how : CallHow) (old new : CallerView) → IsAnsweredAs how old new → is_answered how ≡ true
answered_is how old new (inl at_once) = ap is_answered at_once
answered_is how old new (inr told) = ap is_answered told.7 ∙ told_answered told.1

-- ---- a frame that was handled is that of a call

-- a session that had kept these lines keeps those now
pub record IsCall (session : ℕ) (kept now : Option (List PrintPart)) (body : List ℕ) (old new : PassView) : Type 0 where
  pub call : HasCalled body old new
  pub tells : (calls : List Call) → AreKept kept session old calls → AreKept now session new (calls ++ call.call ∷ [])
  pub whole : IsNotCut call.call
  pub waits : MatchBool (is_some new.waits) (call.call.how ≡ Parked) (call.call.how ≢ Parked)

over : (new : PassView) (how : CallHow) → new.waits ≡ None → how ≢ Parked → MatchBool (is_some new.waits) (how ≡ Parked) (how ≢ Parked)
over new how none not = subst (λ (b : Bool). MatchBool b (how ≡ Parked) (how ≢ Parked)) (sym (ap is_some none)) not

config_is : (body : List ℕ) (old new : PassView) → HasCalled body old new → new.config ≡ old.config
config_is body old new c = ap (λ (b : BrokerView). b.config) c.made

unanswered : (session : ℕ) (kept : Option (List PrintPart)) (body : List ℕ) (old new : PassView) (c : HasCalled body old new) → is_answered c.call.how ≡ false → (calls : List Call)
    → AreKept kept session old calls → AreKept kept session new (calls ++ c.call ∷ [])
unanswered session kept body old new c none calls h = kept_same kept session new calls c.call none (kept_on kept session old new calls (config_is body old new c) c.grown h)

pub replied : (session : ℕ) (kept now : Option (List PrintPart)) (body bytes : List ℕ) (old new : PassView) → HasHandledAs (is_some kept) body (Handled.Reply bytes) old new → HasPut session bytes kept now
    → IsCall session kept now body old new
replied session kept now body bytes old new h put = record {
  call = h.0;
  tells = λ calls k. kept_more kept now session new calls h.0.call bytes (answered_is h.0.call.how old.logs.seat new.logs.seat h.2) h.3 put
      (kept_on kept session old new calls (config_is body old new h.0) h.0.grown k);
  whole = answered_whole h.0.call.how old.logs.seat new.logs.seat h.2;
  waits = over new h.0.call.how h.5 (answered_over h.0.call.how old.logs.seat new.logs.seat h.2);
}

hushed : (session : ℕ) (kept : Option (List PrintPart)) (is_sent : Bool) (body : List ℕ) (old new : PassView) → HasHandledAs is_sent body Handled.Quiet old new → IsCall session kept kept body old new
hushed session kept is_sent body old new h = record {
  call = h.0;
  tells = unanswered session kept body old new h.0 (ap is_answered h.2);
  whole = λ won e. absurd (cc (h.2, e));
  waits = over new h.0.call.how h.4 (λ e. absurd (cc (h.2, e)));
}

parked : (session : ℕ) (kept : Option (List PrintPart)) (is_sent : Bool) (body : List ℕ) (deadline : ℕ) (old new : PassView) → HasHandledAs is_sent body (Handled.Parked deadline) old new
    → IsCall session kept kept body old new
parked session kept is_sent body deadline old new h = record {
  call = h.0;
  tells = unanswered session kept body old new h.0 (ap is_answered h.1);
  whole = λ won e. absurd (cc (h.1, e));
  waits = subst (λ (b : Bool). MatchBool b (h.0.call.how ≡ Parked) (h.0.call.how ≢ Parked)) (sym (ap is_some h.3)) h.1;
}

-- one that has no reply
abbrev pub WasUnreplied : Handled → Type 0
WasUnreplied result = (result ≡ Handled.Quiet) ⊎ ((deadline : ℕ) × (result ≡ Handled.Parked deadline))

pub unreplied : (session : ℕ) (kept : Option (List PrintPart)) (is_sent : Bool) (body : List ℕ) (result : Handled) (old new : PassView) → WasUnreplied result → HasHandledAs is_sent body result old new
    → IsCall session kept kept body old new
unreplied session kept is_sent body result old new (inl quiet) h = hushed session kept is_sent body old new (subst (λ (r : Handled). HasHandledAs is_sent body r old new) quiet h)
unreplied session kept is_sent body result old new (inr waits) h = parked session kept is_sent body waits.0 old new (subst (λ (r : Handled). HasHandledAs is_sent body r old new) waits.1 h)

-- ---- or no call is made of it

pub ends_so : (input : List ℕ) (s : SessionView) (end : ℕ) (body : List ℕ) (why : SessionEnd) → is_some s.pass.going ≡ true → HasReceived input s → next_frame_of s.inbox ≡ Whole end
    → IsFrameBody body → s.inbox ≡ framed body ++ drop end s.inbox → IsEndFor body (calls_made s.pass) why → EndsSo why s
ends_so input s end body why goes received whole small parts because t going =
    let h = handled_of input s (named_of input s goes received) received in
    let g = goes_on h.transcript s.pass goes h.only in
    let is : h.transcript ≡ t = same_Some h.transcript t (sym g.going ∙ going) in
    by_cause because (ap (λ (x : Transcript). x.first) (sym is) ∙ h.first) (made_all h.transcript s.pass h.only ∙ ap (λ (x : Transcript). length x.calls) is)
  where
    by_cause : IsEndFor body (calls_made s.pass) why → t.first ≡ 0 → calls_made s.pass ≡ length t.calls → MayEndSo s.inbox s.is_shut why t
    by_cause (inl full) first count =
        let all : t.first + length t.calls ≡ MOST_CALLS = omega (arith, first, count, full.1) in
        subst (λ (e : SessionEnd). MayEndSo s.inbox s.is_shut e t) (sym full.0) (((end, whole), all), trace_end CallsFull (λ e. absurd cc) (λ e. absurd cc) (λ e. absurd cc))
    by_cause (inr refused) first count =
        subst (λ (e : SessionEnd). MayEndSo s.inbox s.is_shut e t) (sym refused.1)
        ((body, drop end s.inbox, parts, small, refused.3), trace_end (Refused refused.0) (λ e. absurd cc) (λ e. absurd cc) (λ e. absurd cc))

-- ---- a reply is collected

pub collected : (input : List ℕ) (s : SessionView) (new : PassView) (now : Option (List PrintPart)) (bytes : List ℕ) → (c : HasCompleted s.pass new) → c.how ≡ told_as c.done
    → IsMadeOfReply (is_some s.kept) new (record c.call { finish = c.finish; how = c.how }) bytes → HasPut s.number bytes s.kept now → HasReceived input s → HasReceived input (record s { pass = new; kept = now })
collected input s new now bytes c how made put h =
    let named : s.is_named ≡ true = named_of input s (ap is_some c.going) h in
    let call : Call = record c.call { finish = c.finish; how = c.how } in
    received_of input (record s { pass = new; kept = now }) named
    (completed input s new now (handled_of input s named h) c (λ won e. told_whole c.done won (sym how ∙ e)) (λ e. told_over c.done (sym how ∙ e))
    (λ calls k. kept_more s.kept now s.number new calls call bytes (ap is_answered how ∙ told_answered c.done) made put
    (kept_on s.kept s.number s.pass new calls (ap (λ (b : BrokerView). b.config) c.made) c.grown (kept_front s.kept s.number s.pass calls c.call c.waited k))))

-- ---- a frame is handled

pub handled : (input : List ℕ) (s : SessionView) (body : List ℕ) (end : ℕ) (new : PassView) (now : Option (List PrintPart)) → IsFrameBody body → s.inbox ≡ framed body ++ drop end s.inbox
    → IsCall s.number s.kept now body s.pass new → HasReceived input s → HasReceived input (record s { pass = new; inbox = drop end s.inbox; kept = now })
handled input s body end new now small parts call h =
    let named : s.is_named ≡ true = named_of input s (ap is_some call.call.going) h in
    received_of input (record s { pass = new; inbox = drop end s.inbox; kept = now }) named
    (called input s body end new now (handled_of input s named h) small parts call.call call.whole call.waits call.tells)
