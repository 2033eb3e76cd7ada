-- What a session received stays what it was as it handles frames, collects replies and ends, and grows as a line brings it bytes.
use Rattle.std.proofs.Common.{◌≡◌, ◌≢◌, ℕ, Bool, true, false, List, [], ◌∷◌, ◌++◌, length, drop, Option, Some, None, MatchBool, refl, sym, ap, subst, ◌∙◌, append_assoc}
use Rattle.std.specs.Prelude.{is_some}
use Rattle.std.specs.List.{AllByRecursion}
use Rattle.std.proofs.lemmas.Option.{same_Some}
use Rattle.audit.specs.declared.account.Call.{Call}
use Rattle.audit.specs.declared.account.CallHow.TheVariants.{Parked, Cut}
use Rattle.audit.specs.declared.account.SessionEnd.{SessionEnd}
use Rattle.audit.specs.declared.account.Transcript.{Transcript}
use Rattle.audit.specs.Fits.{EndFits, LastIsParked}
use Rattle.audit.specs.Histories.{calls_in}
use Rattle.audit.specs.RunOf.{IsNotCut}
use Rattle.kbytes.proofs.Laws.{all_append}
use Rattle.kwire.specs.Frames.{IsFrameBody, framed}
use Rattle.shared_broker.specs.Calling.{HasCalled}
use Rattle.shared_broker.specs.Collecting.{HasCompleted}
use Rattle.shared_broker.specs.Finding.{HasCaughtUp}
use Rattle.shared_broker.specs.Passes.{PassView}
use Rattle.shared_broker.specs.Sessions.{HasEnded, is_cut_off, with_begun}
use Rattle.trace_workers.specs.declared.print_part.PrintPart.{PrintPart}
use Rattle.trace_workers.specs.Ending.{EndsSo, MayEndSo}
use Rattle.trace_workers.specs.Received.{HasHandled, HasReceived, HasReceivedNothing, IsOnlyOf, StandsAt}
use Rattle.trace_workers.specs.Sessions.{SessionView}
use Rattle.trace_workers.specs.Telling.{AreKept, AreSame}
use Rattle.trace_workers.proofs.Fronts.{end_more, end_shut, same_end}
use Rattle.trace_workers.proofs.Telling.{kept_alike, kept_on, kept_still}
use Rattle.trace_workers.proofs.Transcripts.{all_front, all_last, frames_more, framed_calls, goes_on, is_over, last_whole, only_ended, only_going, parked_last, unparked_last}

-- ---- a session that was named

pub handled_of : (input : List ℕ) (s : SessionView) → s.is_named ≡ true → HasReceived input s → HasHandled input s
handled_of input s named h = subst (λ (b : Bool). MatchBool b (HasHandled input s) (HasReceivedNothing input s)) named h

pub received_of : (input : List ℕ) (s : SessionView) → s.is_named ≡ true → HasHandled input s → HasReceived input s
received_of input s named h = subst (λ (b : Bool). MatchBool b (HasHandled input s) (HasReceivedNothing input s)) (sym named) h

pub nothing_of : (input : List ℕ) (s : SessionView) → s.is_named ≡ false → HasReceived input s → HasReceivedNothing input s
nothing_of input s unnamed h = subst (λ (b : Bool). MatchBool b (HasHandled input s) (HasReceivedNothing input s)) unnamed h

named_by : (input : List ℕ) (s : SessionView) (b : Bool) → is_some s.pass.going ≡ true → MatchBool b (HasHandled input s) (HasReceivedNothing input s) → b ≡ true
named_by input s true goes h = refl
named_by input s false goes h = ap is_some (sym h.going) ∙ goes

-- one whose transcript goes on was named
pub named_of : (input : List ℕ) (s : SessionView) → is_some s.pass.going ≡ true → HasReceived input s → s.is_named ≡ true
named_of input s goes h = named_by input s s.is_named goes h

pub none_of : {X : Type 0} (o : Option X) → is_some o ≡ false → o ≡ None
none_of None e = refl
none_of (Some x) e = absurd cc

-- and none of its calls was cut off
pub uncut : (input : List ℕ) (s : SessionView) → is_some s.pass.going ≡ true → HasReceived input s → is_cut_off s.pass.going ≡ false
uncut input s goes received =
    let h = handled_of input s (named_of input s goes received) received in
    ap is_cut_off (goes_on h.transcript s.pass goes h.only).going ∙ last_whole h.transcript.calls h.whole

-- ---- a line names it

pub begun : (input : List ℕ) (s : SessionView) → HasReceivedNothing input s → HasHandled input (record s { pass = with_begun s.pass s.number; is_named = true })
begun input s h =
    let t : Transcript = record { number = s.number; first = 0; calls = []; end = None } in
    record {
      transcript = t;
      only = only_going t s.pass.ended (with_begun s.pass s.number).going h.ended
          (ap (λ (ts : List Transcript). Some (record { number = s.number; first = length (calls_in ts); calls = []; end = None })) h.ended) refl;
      number = refl;
      first = refl;
      rest = [];
      frames = h.none;
      each = tt;
      whole = tt;
      stands = (sym h.inbox, subst (λ (b : Bool). MatchBool b ⊥ (⊥ → ⊥)) (sym (ap is_some h.waits)) (λ parked. parked));
      kept = kept_still s.kept s.number s.pass (with_begun s.pass s.number) [] refl refl refl h.kept;
    }

-- ---- one call more

stand_last : (b : Bool) (front : List Call) (call : Call) → MatchBool b (call.how ≡ Parked) (call.how ≢ Parked)
    → MatchBool b (LastIsParked (front ++ call ∷ [])) (LastIsParked (front ++ call ∷ []) → ⊥)
stand_last true front call h = parked_last front call h
stand_last false front call h = unparked_last front call h

-- the frame at the front is that of a call, and leaves the inbox
pub called : (input : List ℕ) (s : SessionView) (body : List ℕ) (end : ℕ) (new : PassView) (now : Option (List PrintPart)) → HasHandled input s → IsFrameBody body → s.inbox ≡ framed body ++ drop end s.inbox
    → (c : HasCalled body s.pass new) → IsNotCut c.call → MatchBool (is_some new.waits) (c.call.how ≡ Parked) (c.call.how ≢ Parked)
    → ((calls : List Call) → AreKept s.kept s.number s.pass calls → AreKept now s.number new (calls ++ c.call ∷ []))
    → HasHandled input (record s { pass = new; inbox = drop end s.inbox; kept = now })
called input s body end new now h small parts c whole waits tells =
    let t = h.transcript in
    let g = goes_on t s.pass (ap is_some c.going) h.only in
    let same : c.transcript ≡ t = same_Some c.transcript t (sym c.going ∙ g.going) in
    let u : Transcript = record t { calls = t.calls ++ c.call ∷ [] } in
    let rest = drop end s.inbox in
    let stood : StandsAt s h.rest t None = subst (StandsAt s h.rest t) g.end h.stands in
    let frame : framed body ≡ framed c.call.frame = ap framed (sym c.frame_is) in
    record {
      transcript = u;
      only = only_going u new.ended new.going (c.ended ∙ g.ended) (c.called ∙ ap (λ (x : Transcript). Some (record x { calls = x.calls ++ c.call ∷ [] })) same) g.end;
      number = h.number;
      first = h.first;
      rest = rest;
      frames = h.frames ∙ ap (λ (x : List ℕ). framed_calls t.calls ++ x) (stood.0 ∙ parts ∙ ap (λ (x : List ℕ). x ++ rest) frame)
          ∙ sym (append_assoc (framed_calls t.calls) (framed c.call.frame) rest) ∙ ap (λ (x : List ℕ). x ++ rest) (sym (frames_more t.calls c.call));
      each = all_append (λ (call : Call). IsFrameBody call.frame) t.calls (c.call ∷ []) h.each (subst IsFrameBody (sym c.frame_is) small, tt);
      whole = all_append IsNotCut t.calls (c.call ∷ []) h.whole (whole, tt);
      stands = subst (StandsAt (record s { pass = new; inbox = rest; kept = now }) rest u) (sym g.end) (refl, stand_last (is_some new.waits) t.calls c.call waits);
      kept = tells t.calls h.kept;
    }

-- ---- the last call is completed

pub completed : (input : List ℕ) (s : SessionView) (new : PassView) (now : Option (List PrintPart)) → HasHandled input s → (c : HasCompleted s.pass new) → ((won : Option ℕ) → c.how ≢ Cut won) → c.how ≢ Parked
    → ((calls : List Call) → AreKept s.kept s.number s.pass (calls ++ c.call ∷ []) → AreKept now s.number new (calls ++ record c.call { finish = c.finish; how = c.how } ∷ []))
    → HasHandled input (record s { pass = new; kept = now })
completed input s new now h c whole over tells =
    let t = h.transcript in
    let g = goes_on t s.pass (ap is_some c.going) h.only in
    let front = c.transcript.calls in
    let v : Transcript = record c.transcript { calls = front ++ c.call ∷ [] } in
    let same : t ≡ v = same_Some t v (sym g.going ∙ c.going) in
    let call : Call = record c.call { finish = c.finish; how = c.how } in
    let u : Transcript = record c.transcript { calls = front ++ call ∷ [] } in
    let goes : u.end ≡ None = ap (λ (x : Transcript). x.end) (sym same) ∙ g.end in
    let stood : StandsAt s h.rest t None = subst (StandsAt s h.rest t) g.end h.stands in
    let small : AllByRecursion (λ (x : Call). IsFrameBody x.frame) (front ++ c.call ∷ []) = subst (λ (x : Transcript). AllByRecursion (λ (y : Call). IsFrameBody y.frame) x.calls) same h.each in
    let uncut : AllByRecursion IsNotCut (front ++ c.call ∷ []) = subst (λ (x : Transcript). AllByRecursion IsNotCut x.calls) same h.whole in
    record {
      transcript = u;
      only = only_going u new.ended new.going (c.ended ∙ g.ended) c.completed goes;
      number = ap (λ (x : Transcript). x.number) (sym same) ∙ h.number;
      first = ap (λ (x : Transcript). x.first) (sym same) ∙ h.first;
      rest = h.rest;
      frames = h.frames ∙ ap (λ (x : Transcript). framed_calls x.calls ++ h.rest) same ∙ ap (λ (x : List ℕ). x ++ h.rest) (frames_more front c.call ∙ sym (frames_more front call));
      each = all_append (λ (x : Call). IsFrameBody x.frame) front (call ∷ []) (all_front (λ (x : Call). IsFrameBody x.frame) front c.call small) (all_last (λ (x : Call). IsFrameBody x.frame) front c.call small, tt);
      whole = all_append IsNotCut front (call ∷ []) (all_front IsNotCut front c.call uncut) (whole, tt);
      stands = subst (StandsAt (record s { pass = new; kept = now }) h.rest u) (sym goes)
          (stood.0, subst (λ (b : Bool). MatchBool b (LastIsParked (front ++ call ∷ [])) (LastIsParked (front ++ call ∷ []) → ⊥)) (sym (ap is_some c.waits)) (unparked_last front call over));
      kept = tells front (subst (λ (x : Transcript). AreKept s.kept s.number s.pass x.calls) same h.kept);
    }

-- ---- its transcript ends

pub ended : (input : List ℕ) (s : SessionView) (end : SessionEnd) (new : PassView) → HasHandled input s → EndsSo end s → HasEnded end s.pass new → HasHandled input (record s { pass = new })
ended input s end new h shows e =
    let t = h.transcript in
    let g = goes_on t s.pass (ap is_some e.going) h.only in
    let same : e.transcript ≡ t = same_Some e.transcript t (sym e.going ∙ g.going) in
    let u : Transcript = record t { end = Some end } in
    let stood : StandsAt s h.rest t None = subst (StandsAt s h.rest t) g.end h.stands in
    let may : MayEndSo s.inbox s.is_shut end t = shows t g.going in
    record {
      transcript = u;
      only = only_ended u new.ended new.going
          (ap (λ (p : PassView). p.ended) e.new_is ∙ ap (λ (ts : List Transcript). ts ++ record e.transcript { end = Some end } ∷ []) g.ended ∙ ap (λ (x : Transcript). record x { end = Some end } ∷ []) same)
          (ap (λ (p : PassView). p.going) e.new_is) refl;
      number = h.number;
      first = h.first;
      rest = h.rest;
      frames = h.frames;
      each = h.each;
      whole = h.whole;
      stands = (same_end h.rest s.is_shut t u end refl refl (subst (λ (x : List ℕ). MayEndSo x s.is_shut end t) (sym stood.0) may).0, may.1);
      kept = kept_still s.kept s.number s.pass new t.calls (ap (λ (p : PassView). p.config) e.new_is) (ap (λ (p : PassView). p.logs.parts) e.new_is) (ap (λ (p : PassView). p.logs.clock) e.new_is) h.kept;
    }

-- ---- the pass has only seen what others did, and perhaps what is kept is told in another form

same_handled : (input : List ℕ) (s : SessionView) (new : PassView) (now : Option (List PrintPart)) → new.ended ≡ s.pass.ended → new.going ≡ s.pass.going → new.waits ≡ s.pass.waits
    → ((calls : List Call) → AreKept s.kept s.number s.pass calls → AreKept now s.number new calls) → HasHandled input s → HasHandled input (record s { pass = new; kept = now })
same_handled input s new now over goes waits tells h = record {
  transcript = h.transcript;
  only = subst (λ (ts : List Transcript). IsOnlyOf h.transcript ts new.going) (sym over) (subst (IsOnlyOf h.transcript s.pass.ended) (sym goes) h.only);
  number = h.number;
  first = h.first;
  rest = h.rest;
  frames = h.frames;
  each = h.each;
  whole = h.whole;
  stands = by_end h.transcript.end h.stands;
  kept = tells h.transcript.calls h.kept;
}
  where
    by_end : (end : Option SessionEnd) → StandsAt s h.rest h.transcript end → StandsAt (record s { pass = new; kept = now }) h.rest h.transcript end
    by_end None stood = (stood.0, subst (λ (b : Bool). MatchBool b (LastIsParked h.transcript.calls) (LastIsParked h.transcript.calls → ⊥)) (sym (ap is_some waits)) stood.1)
    by_end (Some end) stood = stood

pub seen : (input : List ℕ) (s : SessionView) (new : PassView) (now : Option (List PrintPart)) → new.ended ≡ s.pass.ended → new.going ≡ s.pass.going → new.waits ≡ s.pass.waits
    → ((calls : List Call) → AreKept s.kept s.number s.pass calls → AreKept now s.number new calls) → HasReceived input s → HasReceived input (record s { pass = new; kept = now })
seen input s new now over goes waits tells h = by_name s.is_named h
  where
    by_name : (b : Bool) → MatchBool b (HasHandled input s) (HasReceivedNothing input s)
        → MatchBool b (HasHandled input (record s { pass = new; kept = now })) (HasReceivedNothing input (record s { pass = new; kept = now }))
    by_name true here = same_handled input s new now over goes waits tells here
    by_name false here = record { none = here.none; inbox = here.inbox; unshut = here.unshut; ended = over ∙ here.ended; going = goes ∙ here.going; waits = waits ∙ here.waits; kept = tells [] here.kept }

-- it looked where the records of its last reply stand
pub shortened : (input : List ℕ) (s : SessionView) (new : PassView) (now : Option (List PrintPart)) → HasCaughtUp s.pass new → AreSame new s.kept now → HasReceived input s
    → HasReceived input (record s { pass = new; kept = now })
shortened input s new now caught same h =
    let p = caught.rest in
    seen input s new now (ap (λ (x : PassView). x.ended) p) (ap (λ (x : PassView). x.going) p) (ap (λ (x : PassView). x.waits) p)
    (λ calls k. kept_alike s.kept now s.number new calls same (kept_on s.kept s.number s.pass new calls (ap (λ (x : PassView). x.config) p) caught.logs.others.grown k)) h

-- ---- a line brings it bytes, or ends its input

-- it goes on
pub fed : (input bytes : List ℕ) (s : SessionView) → is_some s.pass.going ≡ true → HasHandled input s → HasHandled (input ++ bytes) (record s { inbox = s.inbox ++ bytes })
fed input bytes s goes h =
    let t = h.transcript in
    let g = goes_on t s.pass goes h.only in
    let stood : StandsAt s h.rest t None = subst (StandsAt s h.rest t) g.end h.stands in
    record {
      transcript = t;
      only = h.only;
      number = h.number;
      first = h.first;
      rest = h.rest ++ bytes;
      frames = ap (λ (x : List ℕ). x ++ bytes) h.frames ∙ append_assoc (framed_calls t.calls) h.rest bytes;
      each = h.each;
      whole = h.whole;
      stands = subst (StandsAt (record s { inbox = s.inbox ++ bytes }) (h.rest ++ bytes) t) (sym g.end) (ap (λ (x : List ℕ). x ++ bytes) stood.0, stood.1);
      kept = h.kept;
    }

-- it has ended
pub fed_over : (input bytes : List ℕ) (s : SessionView) → s.pass.going ≡ None → s.is_shut ≡ false → HasHandled input s → HasHandled (input ++ bytes) s
fed_over input bytes s none unshut h = record {
  transcript = h.transcript;
  only = h.only;
  number = h.number;
  first = h.first;
  rest = h.rest ++ bytes;
  frames = ap (λ (x : List ℕ). x ++ bytes) h.frames ∙ append_assoc (framed_calls h.transcript.calls) h.rest bytes;
  each = h.each;
  whole = h.whole;
  stands = by_end h.transcript.end (is_over h.transcript s.pass none h.only) h.stands;
  kept = h.kept;
}
  where
    by_end : (end : Option SessionEnd) → is_some end ≡ true → StandsAt s h.rest h.transcript end → StandsAt s (h.rest ++ bytes) h.transcript end
    by_end None over stood = absurd cc
    by_end (Some end) over stood = (
      subst (λ (b : Bool). EndFits (h.rest ++ bytes) b h.transcript (Some end)) (sym unshut)
          (end_more h.rest bytes h.transcript end (subst (λ (b : Bool). MayEndSo h.rest b end h.transcript) unshut stood)),
      stood.1,
    )

pub shut : (input : List ℕ) (s : SessionView) → HasHandled input s → HasHandled input (record s { is_shut = true })
shut input s h = record {
  transcript = h.transcript;
  only = h.only;
  number = h.number;
  first = h.first;
  rest = h.rest;
  frames = h.frames;
  each = h.each;
  whole = h.whole;
  stands = by_end h.transcript.end h.stands;
  kept = h.kept;
}
  where
    by_end : (end : Option SessionEnd) → StandsAt s h.rest h.transcript end → StandsAt (record s { is_shut = true }) h.rest h.transcript end
    by_end None stood = stood
    by_end (Some end) stood = (end_shut h.rest s.is_shut h.transcript end stood.0, stood.1)
