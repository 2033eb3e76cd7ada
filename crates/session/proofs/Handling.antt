-- A request that is answered: what the calls of the broker make of it, one after the other.
use Rattle.std.proofs.Common.{◌≡◌, ℕ, ◌≤◌, true, false, List, [], ◌∷◌, ◌++◌, length, Option, Some, None, Result, Ok, Err, refl, sym, ap, subst, ◌∙◌, inl, inr, arith}
use Rattle.std.specs.Prelude.{OnErr, OnOk, option_to_list}
use Rattle.std.proofs.lemmas.List.{same_from_push}
use Rattle.std.proofs.lemmas.Option.{same_Some}
use Rattle.audit.specs.declared.account.Call.{Call}
use Rattle.audit.specs.declared.account.CallHow.{CallHow}
use Rattle.audit.specs.declared.account.CallHow.TheVariants.{Cut}
use Rattle.audit.specs.declared.account.SessionEnd.{SessionEnd}
use Rattle.audit.specs.declared.account.SessionEnd.TheVariants.{NoMemory}
use Rattle.audit.specs.declared.account.Transcript.{Transcript}
use Rattle.audit.specs.Fits.{is_answered}
use Rattle.audit.specs.Histories.{calls_in}
use Rattle.audit.specs.broker.books.Told.{is_cut}
use Rattle.purgatory.specs.declared.outcome.Done.{Done}
use Rattle.room_core.specs.declared.event.How.{How}
use Rattle.room_table.specs.Seats.{CallerView}
use Rattle.session.specs.Answering.{HasAnswered, HasFinishedLast, HasOneMore, HasOnlyLooked, IsCutShort, IsFinished}
use Rattle.session.specs.declared.answers.Answered.{Answered}
use Rattle.session.specs.Onwards.{HasGoneOn}
use Rattle.session.proofs.Going.{looked_with, on_twice, on_unticked, same_made}
use Rattle.shared_broker.specs.declared.calling.Handled.{Handled}
use Rattle.shared_broker.specs.Calling.{HasCalled, HasHandled, IsAnsweredAs, IsCutOff, IsEndFor, IsRepliedTo, how_by, told_as}
use Rattle.shared_broker.specs.Collecting.{HasCompleted}
use Rattle.shared_broker.specs.Passes.{PassView, calls_made}
use Rattle.shared_broker.specs.Sessions.{is_cut_off}
use Rattle.shared_logs.specs.Coming.{HasStepped}
use Rattle.audit.specs.broker.GoesOn.{HaveGrown}
use Rattle.audit.proofs.broker.Laws.{grown_self}
use Rattle.partlog.specs.declared.clock_event.ClockEvent.{ClockEvent}
use Rattle.partlog.specs.History.{History}

-- ---- what holds either way

pub either_way : {T E A B C : Type 0} (r : Result T E) → OnOk r A → OnErr r B → (A → C) → (B → C) → C
either_way (Ok x) a b f g = f a
either_way (Err e) a b f g = g b

-- ---- how a call that was answered is put down

-- it has a reply, and wasn't cut off
pub record IsAnsweredHow (how : CallHow) : Type 0 where
  pub answered : is_answered how ≡ true
  pub uncut : is_cut how ≡ false

by_how : (how : How) (by : ℕ) → IsAnsweredHow (how_by how by)
by_how How.Satisfied by = record { answered = refl; uncut = refl }
by_how How.Expired by = record { answered = refl; uncut = refl }

won_how : (how : CallHow) (done : Done) → how ≡ told_as done → IsAnsweredHow how
won_how how done is = subst IsAnsweredHow (sym is) (by_how done.how done.by)

pub answered_how : (how : CallHow) (old new : CallerView) → IsAnsweredAs how old new → IsAnsweredHow how
answered_how how old new (inl at_once) = subst IsAnsweredHow (sym at_once) (record { answered = refl; uncut = refl })
answered_how how old new (inr told) = won_how how told.1 told.7

pub cut_how : (how : CallHow) → IsCutOff how → is_answered how ≡ false
cut_how how cut = ap is_answered cut.1

-- ---- one call more

abbrev pub one_more : (told : ℕ) (frame : List ℕ) (a b c : PassView) → HasOnlyLooked told a b → (h : HasCalled frame b c) → c.waits ≡ None → HasOneMore told frame a c
one_more told frame a b c l h none = record {
  on = on_twice told told a b c (omega arith) l.on (on_unticked told b c h.number h.made h.grown h.ticked);
  ended = h.ended ∙ l.ended;
  waits = none;
  transcript = h.transcript;
  call = h.call;
  frame_is = h.frame_is;
  going = sym l.going ∙ h.going;
  called = h.called;
}

-- memory ran out
pub out_of_memory : (told : ℕ) (frame : List ℕ) (a b c : PassView) → HasOnlyLooked told a b → HasHandled frame Handled.NoMemory b c → HasAnswered told frame (Answered.Ended NoMemory) a c
out_of_memory told frame a b c l (inl same) = inl (subst (λ (p : PassView). HasOnlyLooked told a p) (sym same) l, inl refl)
out_of_memory told frame a b c l (inr cut) = inr (refl, one_more told frame a b c l cut.0 cut.2, cut_how cut.0.call.how cut.1)

-- ---- the last call has come to its end

abbrev pub finished_last : (told : ℕ) (a b c : PassView) → HasOnlyLooked told a b → (h : HasCompleted b c) → HasFinishedLast told a c
finished_last told a b c l h = record {
  on = on_twice told told a b c (omega arith) l.on (on_unticked told b c h.number h.made h.grown h.ticked);
  ended = h.ended ∙ l.ended;
  waits = h.waits;
  transcript = h.transcript;
  call = h.call;
  finish = h.finish;
  how = h.how;
  going = sym l.going ∙ h.going;
  finished = h.completed;
}

pub is_finished : (told : ℕ) (a b c : PassView) (bytes : List ℕ) → HasOnlyLooked told a b → (h : HasCompleted b c) → h.how ≡ told_as h.done
    → IsRepliedTo c (record h.call { finish = h.finish; how = h.how }) bytes → IsFinished told a c bytes
is_finished told a b c bytes l h how replied =
    let won = won_how h.how h.done how in
    record { last = finished_last told a b c l h; answer = record { answered = won.answered; uncut = won.uncut; replied = replied } }

pub is_cut_short : (told : ℕ) (a b c : PassView) → HasOnlyLooked told a b → (h : HasCompleted b c) → h.how ≡ Cut (Some h.done.by) → IsCutShort told a c
is_cut_short told a b c l h how = record { last = finished_last told a b c l h; unanswered = ap is_answered how }

-- it was found open: nothing came
pub looked_stepped : (told : ℕ) (a b : PassView) → HasStepped a.logs b.logs → b ≡ record a { logs = b.logs } → HasOnlyLooked told a b
looked_stepped told a b s is =
    let logs = b.logs in
    let grown : HaveGrown a.logs.parts a.logs.clock logs.parts logs.clock =
    subst (λ (events : List ClockEvent). HaveGrown a.logs.parts a.logs.clock logs.parts events) (sym s.clock)
    (subst (λ (parts : List History). HaveGrown a.logs.parts a.logs.clock parts a.logs.clock) (sym s.parts) (grown_self a.logs.parts a.logs.clock)) in
    looked_with told a b logs is (on_unticked told a (record a { logs = logs }) s.number (same_made a logs s.made) grown s.ticked)

-- ---- a call that waited is one call more

-- the calls of a transcript that is told in two ways
same_calls : (t u : Transcript) (xs ys : List Call) → Some (record t { calls = xs }) ≡ Some (record u { calls = ys }) → xs ≡ ys
same_calls t u xs ys same = ap (λ (x : Transcript). x.calls) (same_Some (record t { calls = xs }) (record u { calls = ys }) same)

same_rest : (t u : Transcript) (xs ys zs : List Call) → Some (record t { calls = xs }) ≡ Some (record u { calls = ys }) → record t { calls = zs } ≡ record u { calls = zs }
same_rest t u xs ys zs same = ap (λ (x : Transcript). record x { calls = zs }) (same_Some (record t { calls = xs }) (record u { calls = ys }) same)

-- the call that was made as `h` says is the one that came to its end as `f` says
pub record IsSameCall (frame : List ℕ) (b c d : PassView) (told : ℕ) (h : HasCalled frame b c) (f : HasFinishedLast told c d) : Type 0 where
  pub calls : f.transcript.calls ≡ h.transcript.calls
  pub call : f.call ≡ h.call
  pub going : d.going ≡ Some (record h.transcript { calls = h.transcript.calls ++ record f.call { finish = f.finish; how = f.how } ∷ [] })

pub same_call : (frame : List ℕ) (b c d : PassView) (told : ℕ) (h : HasCalled frame b c) (f : HasFinishedLast told c d) → IsSameCall frame b c d told h f
same_call frame b c d told h f =
    let before = f.transcript.calls ++ f.call ∷ [] in
    let made = h.transcript.calls ++ h.call ∷ [] in
    let call : Call = record f.call { finish = f.finish; how = f.how } in
    let same : Some (record f.transcript { calls = before }) ≡ Some (record h.transcript { calls = made }) = sym f.going ∙ h.called in
    let parts = same_from_push f.transcript.calls h.transcript.calls f.call h.call (same_calls f.transcript h.transcript before made same) in
    record {
      calls = parts.0;
      call = parts.1;
      going = f.finished ∙ ap (λ (t : Transcript). Some t) (same_rest f.transcript h.transcript before made (f.transcript.calls ++ call ∷ []) same)
          ∙ ap (λ (cs : List Call). Some (record h.transcript { calls = cs ++ call ∷ [] })) parts.0;
    }

abbrev pub waited_more : (t u : ℕ) (frame : List ℕ) (a b c d : PassView) → t ≤ u → HasOnlyLooked t a b → (h : HasCalled frame b c) → (f : HasFinishedLast u c d) → HasOneMore u frame a d
waited_more t u frame a b c d le l h f =
    let s = same_call frame b c d u h f in
    let first : HasGoneOn u a c = on_twice t u a b c le l.on (on_unticked u b c h.number h.made h.grown h.ticked) in
    record {
      on = on_twice u u a c d (omega arith) first f.on;
      ended = f.ended ∙ h.ended ∙ l.ended;
      waits = f.waits;
      transcript = h.transcript;
      call = record f.call { finish = f.finish; how = f.how };
      frame_is = ap (λ (x : Call). x.frame) s.call ∙ h.frame_is;
      going = sym l.going ∙ h.going;
      called = s.going;
    }

-- ---- no call is made

pub as_many_made : (told : ℕ) (a b : PassView) → HasOnlyLooked told a b → calls_made b ≡ calls_made a
as_many_made told a b l =
    ap (λ (going : Option Transcript). length (calls_in (b.ended ++ option_to_list going))) l.going
    ∙ ap (λ (ended : List Transcript). length (calls_in (ended ++ option_to_list a.going))) l.ended

pub ends_for : (told : ℕ) (frame : List ℕ) (a b : PassView) (end : SessionEnd) → HasOnlyLooked told a b → IsEndFor frame (calls_made b) end → IsEndFor frame (calls_made a) end
ends_for told frame a b end l because = subst (λ (n : ℕ). IsEndFor frame n end) (as_many_made told a b l) because

pub uncut_still : (told : ℕ) (a b : PassView) → HasOnlyLooked told a b → is_cut_off a.going ≡ false → is_cut_off b.going ≡ false
uncut_still told a b l uncut = ap is_cut_off l.going ∙ uncut
