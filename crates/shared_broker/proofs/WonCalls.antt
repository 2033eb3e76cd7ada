-- A call that was won, whose completion found the histories so and then paid what the pass owed.
use Rattle.std.proofs.Common.{◌≡◌, ℕ, List, length, Option, Some, None, refl, sym, ap, subst, ◌∙◌, Bool}
use Rattle.partlog.specs.declared.clock_event.ClockEvent.{ClockEvent}
use Rattle.partlog.specs.History.{History}
use Rattle.partlog.specs.State.{PartState as State}
use Rattle.audit.specs.declared.account.Call.{Call}
use Rattle.audit.specs.declared.account.CallHow.{CallHow}
use Rattle.audit.specs.declared.account.CallHow.TheVariants.{Cut, Expired, Satisfied}
use Rattle.audit.specs.declared.account.Point.{Point}
use Rattle.audit.specs.declared.account.Transcript.{Transcript}
use Rattle.audit.specs.Fits.{IsReplyOf}
use Rattle.audit.specs.LawfulCall.{operation_parts}
use Rattle.shared_logs.specs.Amid.{amid}
use Rattle.shared_logs.specs.Left.{AreLeft}
use Rattle.shared_logs.proofs.Laws.{left_on, left_stepped, same_on, same_stepped}
use Rattle.kanswer.specs.Answer.{answer}
use Rattle.kanswer.specs.declared.accepted.Reading.{Reading}
use Rattle.kanswer.specs.LogReadings.{AreReadings}
use Rattle.kanswer.specs.Waiting.{Shown}
use Rattle.kwire.specs.Configuration.{Configuration}
use Rattle.kwire.specs.declared.request.Request.{Request}
use Rattle.audit.specs.broker.books.Finishing.{IsFinishing, shown_with}
use Rattle.audit.specs.broker.books.IsBook.{IsBook}
use Rattle.audit.specs.broker.books.Underway.{Underway, book_amid, with_end}
use Rattle.audit.proofs.broker.books.Laws.{expired_reply, finishing_as, finishing_cut, finishing_expired, finishing_satisfied, satisfied_reply}
use Rattle.audit.specs.broker.Board.{Waiting}
use Rattle.audit.specs.broker.GoesOn.{Carried, HaveGrown}
use Rattle.purgatory.specs.declared.outcome.Done.{Done}
use Rattle.purgatory.specs.Going.{KeepsOperation, OwesNothing}
use Rattle.room_core.specs.declared.event.How.{How}
use Rattle.room_table.specs.Seats.{caller_now}
use Rattle.shared_broker.specs.Calling.{frame_of, how_by, told_as}
use Rattle.shared_broker.specs.declared.parked.Parked.{Parked}
use Rattle.shared_broker.specs.Serving.{HasEndedCall, IsToldTo, WillSit, finished_as}
use Rattle.shared_calls.specs.Finished.{IsLate, WasFinished, WasStopped}
use Rattle.shared_logs.specs.Coming.{HasStepped, IsSamePass}
use Rattle.shared_logs.specs.Shared.{LogPassView}

-- ---- a step of the pass's seat, by which it sees nothing

module _ (a b : LogPassView) (step : HasStepped a b) where
  pub amid_stepped : (config : Configuration) (front : List Transcript) (transcript : Transcript) (call : Call) → amid config front transcript b call ≡ amid config front transcript a call
  amid_stepped config front transcript call =
      ap (λ (n : ℕ). with_seen n b.parts b.clock) step.number ∙ ap (λ (hs : List History). with_seen a.number hs b.clock) step.parts
      ∙ ap (λ (es : List ClockEvent). with_seen a.number a.parts es) step.clock
    where
      with_seen : ℕ → List History → List ClockEvent → Underway
      with_seen n parts clock = record { config = config; number = n; parts = parts; clock = clock; front = front; transcript = transcript; call = call }

  pub grown_stepped : (parts : List History) (clock : List ClockEvent) → HaveGrown parts clock a.parts a.clock → HaveGrown parts clock b.parts b.clock
  grown_stepped parts clock grown =
      subst (λ (es : List ClockEvent). HaveGrown parts clock b.parts es) (sym step.clock) (subst (λ (hs : List History). HaveGrown parts clock hs a.clock) (sym step.parts) grown)

-- ---- it is told as it was won

told_book : (u : Underway) (w : Waiting) (how : How) (by : ℕ) (late : Option Point) (states : List State) → IsLate how late → IsFinishing u w late states → length states ≡ length (operation_parts w.steps)
    → IsBook (book_amid (with_end u (how_by how by))) None
told_book u w How.Satisfied by None states is h size = finishing_satisfied (with_end u (Satisfied by)) w states by (finishing_as u w None states (Satisfied by) h) size refl
told_book u w How.Satisfied by (Some late) states is h size = absurd is
told_book u w How.Expired by None states is h size = absurd is
told_book u w How.Expired by (Some late) states is h size = finishing_expired (with_end u (Expired by)) w states by late (finishing_as u w (Some late) states (Expired by) h) size refl

told_reply : (u : Underway) (w : Waiting) (how : How) (by : ℕ) (late : Option Point) (states : List State) → IsLate how late → IsFinishing u w late states
    → Carried u.config u.parts u.clock (λ account. IsReplyOf account (with_end u (how_by how by)).call (answer u.config w.request (shown_with w.steps states)))
told_reply u w How.Satisfied by None states is h = satisfied_reply (with_end u (Satisfied by)) w states by (finishing_as u w None states (Satisfied by) h) refl
told_reply u w How.Satisfied by (Some late) states is h = absurd is
told_reply u w How.Expired by None states is h = absurd is
told_reply u w How.Expired by (Some late) states is h = expired_reply (with_end u (Expired by)) w late states by (finishing_as u w (Some late) states (Expired by) h) refl

module _ (config : Configuration) (seq : ℕ) (request : Request) (parked : Parked) (old mid new : LogPassView) (step : HasStepped mid new)
    (kept : KeepsOperation (caller_now mid.seat) (caller_now new.seat)) (paid : OwesNothing (caller_now new.seat)) where
  finishing_stepped : (front : List Transcript) (transcript : Transcript) (call : Call) (w : Waiting) (late : Option Point) (states : List State)
      → IsFinishing (amid config front transcript mid call) w late states → IsFinishing (amid config front transcript new call) w late states
  finishing_stepped front transcript call w late states h = subst (λ (u : Underway). IsFinishing u w late states) (sym (amid_stepped mid new step config front transcript call)) h

  ended : (call : Call) (after : List Point) (how : CallHow) → IsSamePass old mid → mid.ticked ≡ old.ticked → HaveGrown old.parts old.clock mid.parts mid.clock
      → ((front : List Transcript) (transcript : Transcript) → WillSit config seq request parked old call front transcript → IsBook (book_amid (amid config front transcript new (finished_as call after how))) None)
      → HasEndedCall config (WillSit config seq request parked old call) old new call (finished_as call after how)
  ended call after how same ticked grown book = record {
    same = same_on old mid new same (same_stepped mid new step kept);
    ticked = step.ticked ∙ ticked;
    grown = grown_stepped mid new step old.parts old.clock grown;
    paid = paid;
    rest = refl;
    book = book;
  }

  -- running out of memory stopped it, on the way or at the reply's frame
  pub call_stopped : (by : ℕ) (after : List Point) (call : Call) → WasStopped seq request parked.accepted parked.op old mid after
      → HasEndedCall config (WillSit config seq request parked old call) old new call (finished_as call after (Cut (Some by)))
  call_stopped by after call s = ended call after (Cut (Some by)) s.same s.ticked s.grown (λ front transcript was.
      let u = amid config front transcript new (record call { finish = after }) in
      let h = finishing_stepped front transcript (record call { finish = after }) was.0 s.late s.states (s.goes config front transcript call was.0 was.1) in
      finishing_cut (with_end u (Cut (Some by))) was.0 s.states by s.late (finishing_as u was.0 s.late s.states (Cut (Some by)) h) refl)

  module _ (done : Done) (after : List Point) (readings : List Reading) (f : WasFinished seq request parked.accepted parked.op done.how old mid after readings) where
    finishing : (call : Call) (front : List Transcript) (transcript : Transcript) (was : WillSit config seq request parked old call front transcript)
        → IsFinishing (amid config front transcript new (record call { finish = after })) was.0 f.late f.states
    finishing call front transcript was =
        finishing_stepped front transcript (record call { finish = after }) was.0 f.late f.states (f.goes config front transcript call was.0 was.1).0

    pub call_cut : (call : Call) → HasEndedCall config (WillSit config seq request parked old call) old new call (finished_as call after (Cut (Some done.by)))
    call_cut call = ended call after (Cut (Some done.by)) f.same f.ticked f.grown (λ front transcript was.
        let u = amid config front transcript new (record call { finish = after }) in
        finishing_cut (with_end u (Cut (Some done.by))) was.0 f.states done.by f.late (finishing_as u was.0 f.late f.states (Cut (Some done.by)) (finishing call front transcript was)) refl)

    pub call_told : (call : Call) → HasEndedCall config (WillSit config seq request parked old call) old new call (finished_as call after (told_as done))
    call_told call = ended call after (told_as done) f.same f.ticked f.grown (λ front transcript was.
        let u = amid config front transcript new (record call { finish = after }) in
        told_book u was.0 done.how done.by f.late f.states f.late_is (finishing call front transcript was) (f.goes config front transcript call was.0 was.1).1)

    pub call_left : AreLeft seq old new
    call_left = left_on seq old mid new f.same.number f.left (left_stepped seq mid new step)

    pub call_read : (call : Call) (front : List Transcript) (transcript : Transcript) → WillSit config seq request parked old call front transcript
        → (shown : List Shown) × AreReadings request.ask parked.accepted readings shown
    call_read call front transcript was = (shown_with was.0.steps f.states, (f.goes config front transcript call was.0 was.1).2)

    pub call_replied : (is_sent : Bool) (frame : List ℕ) → ((shown : List Shown) → AreReadings request.ask parked.accepted readings shown → frame ≡ frame_of is_sent (answer config request shown)) → (call : Call) (front : List Transcript) (transcript : Transcript)
        → WillSit config seq request parked old call front transcript → IsToldTo is_sent config new (finished_as call after (told_as done)) frame
    call_replied is_sent frame spelled call front transcript was = record {
      reply = answer config was.0.request (shown_with was.0.steps f.states);
      spelled = spelled (shown_with was.0.steps f.states) (f.goes config front transcript call was.0 was.1).2
          ∙ ap (λ (r : Request). frame_of is_sent (answer config r (shown_with was.0.steps f.states))) (sym was.1.request_is);
      replied = told_reply (amid config front transcript new (record call { finish = after })) was.0 done.how done.by f.late f.states f.late_is (finishing call front transcript was);
    }
