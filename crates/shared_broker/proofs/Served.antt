-- A call that was written down is accepted, and what the pass owed is paid.
use Rattle.std.proofs.Common.{◌≡◌, ℕ, ◌+◌, Bool, true, false, cond, List, [], length, None, Result, Ok, Err, refl, sym, ap, subst, arith, inl}
use Rattle.std.proofs.Math.Seq.{take-length}
use Rattle.audit.specs.declared.account.Call.{Call}
use Rattle.audit.specs.declared.account.CallHow.{CallHow}
use Rattle.audit.specs.declared.account.CallHow.TheVariants.{AtOnce, Quiet}
use Rattle.audit.specs.declared.account.Point.{Point}
use Rattle.audit.specs.declared.account.Transcript.{Transcript}
use Rattle.audit.specs.IsLawful.{is_won_as}
use Rattle.shared_logs.specs.Amid.{amid}
use Rattle.shared_logs.specs.Left.{AreLeft}
use Rattle.shared_logs.proofs.Laws.{left_on, left_stepped, operation_on}
use Rattle.kanswer.specs.Answer.{answer}
use Rattle.kanswer.specs.Decisions.{Decides, Decision}
use Rattle.kanswer.specs.LogReadings.{AreReadings}
use Rattle.kanswer.specs.Numbered.{AreNumbers}
use Rattle.kanswer.specs.Waiting.{Shown, becomes_delayed, results_of}
use Rattle.kwire.specs.Configuration.{Configuration}
use Rattle.kwire.specs.declared.request.Request.{Request}
use Rattle.audit.specs.broker.books.Accepting.{IsAccepting}
use Rattle.audit.specs.broker.books.IsBook.{IsBook}
use Rattle.audit.specs.broker.books.Underway.{Underway, book_amid, with_end}
use Rattle.audit.proofs.broker.books.Laws.{accepting_as, accepting_cut, answered_book, answered_reply}
use Rattle.audit.specs.broker.Entering.{Noted, shown_of}
use Rattle.audit.specs.broker.Turns.{how_at_once}
use Rattle.purgatory.specs.Going.{KeepsOperation, OwesNothing}
use Rattle.room_core.specs.declared.parts.Stage.{Stage}
use Rattle.room_table.specs.Seats.{caller_now}
use Rattle.shared_calls.specs.Accepted.{WasAccepted}
use Rattle.shared_calls.specs.Came.{CameView}
use Rattle.shared_calls.specs.Carried.{HasStopped, IsAt}
use Rattle.shared_broker.specs.Calling.{frame_of}
use Rattle.shared_broker.specs.declared.calling.Became.{Became}
use Rattle.shared_broker.specs.Serving.{HasCome, HasGoneOn, HasServed, IsAnswered, IsToldTo, IsWritten, WillWait}
use Rattle.shared_logs.specs.Coming.{HasStepped}
use Rattle.shared_logs.specs.Shared.{LogPassView}
use Rattle.shared_broker.proofs.Enlisted.{stepped_on}
use Rattle.shared_broker.proofs.Steps.{cut_come, gone_on, unwon_come}
use Rattle.shared_broker.proofs.WonCalls.{amid_stepped}

module _ (config : Configuration) (seq : ℕ) (request : Request) (old mid new : LogPassView) (call : Call) (step : HasStepped mid new)
    (kept : KeepsOperation (caller_now mid.seat) (caller_now new.seat)) (paid : OwesNothing (caller_now new.seat)) (idle : (caller_now old.seat).stage ≡ Stage.Idle) (points : List Point) where
  is_at : (front : List Transcript) (transcript : Transcript) (was : IsWritten config seq request old call front transcript)
      → IsAt config seq was.decisions old call.accept front transcript call request was.decisions 0 []
  is_at front transcript was = record {
    number = was.number;
    points_are = refl;
    next_are = take-length was.decisions;
    accepting = was.accepting;
  }

  -- no memory was left on the way
  pub stopped_come : ((decisions : List Decision) → Decides config request.ask decisions → HasStopped config seq decisions old call.accept mid points) → (front : List Transcript) (transcript : Transcript)
      → IsWritten config seq request old call front transcript → HasCome config (IsWritten config seq request old call) None old new call (record call { accept = points })
  stopped_come stopped front transcript first =
      let s = stopped first.decisions first.accepting.decided in
      cut_come config (IsWritten config seq request old call) old new call (record call { accept = points })
      (gone_on old mid new (record { number = s.same.number; made = s.same.made; ticked = s.ticked; grown = s.grown; went = s.same.went }) (stepped_on mid new step))
      (operation_on _ _ _ s.same.kept kept) idle paid first.cut refl
      (λ f t was.
      let h = (stopped was.decisions was.accepting.decided).goes f t call request was.decisions 0 [] (is_at f t was) in
      accepting_cut (amid config f t new (record call { accept = points })) request was.decisions h.0 h.1
      (subst (λ (u : Underway). IsAccepting u request was.decisions h.0 h.1) (sym (amid_stepped mid new step config f t (record call { accept = points }))) h.2) was.cut)

  -- all was carried out
  module _ (is_sent : Bool) (came : CameView) (accepted : (decisions : List Decision) → Decides config request.ask decisions → WasAccepted is_sent config seq request decisions old call.accept mid points came) where
    abbrev noted_in : (front : List Transcript) (transcript : Transcript) → IsWritten config seq request old call front transcript → List Noted
    noted_in front transcript was = (accepted was.decisions was.accepting.decided).noted

    whole : (front : List Transcript) (transcript : Transcript) (was : IsWritten config seq request old call front transcript)
        → IsAccepting (amid config front transcript new (record call { accept = points })) request was.decisions (length was.decisions) (noted_in front transcript was)
    whole front transcript was =
        let w = accepted was.decisions was.accepting.decided in
        let none_before : 0 + length was.decisions ≡ length was.decisions = omega arith in
        subst (λ (u : Underway). IsAccepting u request was.decisions (length was.decisions) w.noted) (sym (amid_stepped mid new step config front transcript (record call { accept = points })))
        (subst (λ (n : ℕ). IsAccepting (amid config front transcript mid (record call { accept = points })) request was.decisions n w.noted) none_before
        (w.carried.goes front transcript call request was.decisions 0 [] (is_at front transcript was)))

    pub will_wait : ((shown : List Shown) → results_of shown ≡ came.accepted → AreNumbers came.numbers shown → becomes_delayed request.ask shown ≡ true) → (front : List Transcript) (transcript : Transcript)
        → IsWritten config seq request old call front transcript → WillWait config seq request came.accepted new (record call { accept = points }) front transcript
    will_wait delayed front transcript was =
        let w = accepted was.decisions was.accepting.decided in
        record { number = was.number; decisions = was.decisions; noted = w.noted; accepting = whole front transcript was; results = w.results; delayed = delayed (shown_of w.noted) w.results w.numbers }

    module _ (front : List Transcript) (transcript : Transcript) (first : IsWritten config seq request old call front transcript) where
      abbrev one : WasAccepted is_sent config seq request first.decisions old call.accept mid points came
      one = accepted first.decisions first.accepting.decided

      pub accepted_on : HasGoneOn old new
      accepted_on = gone_on old mid new (record { number = one.carried.same.number; made = one.carried.same.made; ticked = one.carried.ticked; grown = one.carried.grown; went = one.carried.same.went }) (stepped_on mid new step)

      pub accepted_kept : KeepsOperation (caller_now old.seat) (caller_now new.seat)
      accepted_kept = operation_on _ _ _ one.carried.same.kept kept

      pub accepted_left : AreLeft seq old new
      accepted_left = left_on seq old mid new one.carried.same.number one.carried.left (left_stepped seq mid new step)

      -- it is answered at once
      module _ (undelayed : (shown : List Shown) → results_of shown ≡ came.accepted → AreNumbers came.numbers shown → becomes_delayed request.ask shown ≡ false) where
        at_once : (how : CallHow) → how ≡ how_at_once request.ask → (f : List Transcript) (t : Transcript) → IsWritten config seq request old call f t
            → IsBook (book_amid (amid config f t new (record call { accept = points; how = how }))) None
        at_once how is f t was =
            let w = accepted was.decisions was.accepting.decided in
            let u = amid config f t new (record call { accept = points }) in
            answered_book (with_end u how) request was.decisions w.noted (accepting_as u request was.decisions (length was.decisions) w.noted how (whole f t was)) (undelayed (shown_of w.noted) w.results w.numbers) is

        come_at_once : (how : CallHow) → how ≡ how_at_once request.ask → ((by : ℕ) → is_won_as by how ≡ false) → HasCome config (IsWritten config seq request old call) None old new call (record call { accept = points; how = how })
        come_at_once how is nobody =
            unwon_come config (IsWritten config seq request old call) old new call (record call { accept = points; how = how }) accepted_on accepted_kept idle paid nobody refl (at_once how is)

        told_at_once : (bytes : List ℕ) → ((shown : List Shown) → (is_sent ≡ true → AreReadings request.ask came.accepted came.readings shown) → bytes ≡ frame_of is_sent (answer config request shown)) → (f : List Transcript) (t : Transcript)
            → IsWritten config seq request old call f t → IsToldTo is_sent config new (record call { accept = points; how = AtOnce }) bytes
        told_at_once bytes spelled f t was =
            let w = accepted was.decisions was.accepting.decided in
            let u = amid config f t new (record call { accept = points }) in
            record {
              reply = answer config request (shown_of w.noted);
              spelled = spelled (shown_of w.noted) w.readings;
              replied = answered_reply (with_end u AtOnce) request was.decisions w.noted (accepting_as u request was.decisions (length was.decisions) w.noted AtOnce (whole f t was)) (undelayed (shown_of w.noted) w.results w.numbers) refl;
            }

        pub answered : {E : Type 0} (r : Result Became E) (after : Call) → IsAnswered is_sent config request came r (record call { accept = points }) after
            → HasServed is_sent config seq request (IsWritten config seq request old call) r old new call after
        answered {E = E} (Ok (Became.Answered bytes)) after h =
            subst (λ (k : Call). HasServed {E = E} is_sent config seq request (IsWritten config seq request old call) (Ok (Became.Answered bytes)) old new call k) (sym h.1)
            (come_at_once AtOnce (ap (λ (b : Bool). cond b Quiet AtOnce) (sym h.0)) (λ by. refl), h.0, inl refl, accepted_left, told_at_once bytes h.2)
        answered {E = E} (Ok Became.Quiet) after h =
            subst (λ (k : Call). HasServed {E = E} is_sent config seq request (IsWritten config seq request old call) (Ok Became.Quiet) old new call k) (sym h.1)
            (come_at_once Quiet (ap (λ (b : Bool). cond b Quiet AtOnce) (sym h.0)) (λ by. refl), h.0, refl, accepted_left)
        answered {E = E} (Ok (Became.Parked parked)) after h = absurd h
        answered {E = E} (Err e) after h =
            subst (λ (k : Call). HasServed {E = E} is_sent config seq request (IsWritten config seq request old call) (Err e) old new call k) (sym h) (
              cut_come config (IsWritten config seq request old call) old new call (record call { accept = points }) accepted_on accepted_kept idle paid first.cut refl
                  (λ f t was. accepting_cut (amid config f t new (record call { accept = points })) request was.decisions (length was.decisions) (noted_in f t was) (whole f t was) was.cut),
              (None, first.cut),
            )
