-- A delayed call was won, and comes to its end.
use Rattle.std.proofs.Common.{◌≡◌, ℕ, ◌≤◌, List, [], ◌∷◌, ◌++◌, length, Some, None, refl, sym, ap, subst, ◌∙◌, arith, append-nil}
use Rattle.std.specs.List.Sorted.{IsStrictlyIncreasing}
use Rattle.audit.specs.declared.account.Call.{Call}
use Rattle.audit.specs.declared.account.Point.{Point}
use Rattle.audit.specs.declared.account.Transcript.{Transcript}
use Rattle.audit.specs.Histories.{clock_part, ticks_of}
use Rattle.audit.specs.LawfulCall.{operation_parts}
use Rattle.kanswer.specs.declared.accepted.Accepted.{Accepted}
use Rattle.kanswer.specs.declared.accepted.Reading.{Reading}
use Rattle.kanswer.specs.LogReadings.{AreReadings}
use Rattle.kanswer.specs.Results.{parts_asked}
use Rattle.kanswer.specs.Waiting.{needs_of, operation_of, values_of}
use Rattle.kwire.specs.Configuration.{Configuration}
use Rattle.kwire.specs.declared.request.Request.{Request}
use Rattle.opcond.specs.declared.need.Need.{Need}
use Rattle.opcond.specs.Operation.{Operation}
use Rattle.opcond.specs.Tally.{IsSatisfied, tally}
use Rattle.partlog.specs.declared.clock_event.ClockEvent.{ClockEvent}
use Rattle.partlog.specs.declared.clock_event.ClockEvent.TheVariants as clocks
use Rattle.partlog.specs.Moment.{moment_of}
use Rattle.partlog.specs.State.{PartState as State}
use Rattle.audit.specs.broker.Board.{Waiting}
use Rattle.audit.proofs.broker.Laws.{clock_point, ticks_looked}
use Rattle.audit.specs.broker.books.Finishing.{IsDelayed, IsFinishing, late_seen, shown_with}
use Rattle.audit.specs.broker.books.Underway.{Underway, seq_of}
use Rattle.audit.proofs.broker.books.Laws.{clock_histories, finishing_late, finishing_won, others_delayed, others_finishing}
use Rattle.purgatory.specs.Going.{KeepsOperation}
use Rattle.room_core.specs.declared.event.How.{How}
use Rattle.room_table.specs.Seats.{caller_now}
use Rattle.shared_logs.specs.Asked.{HasLookedAtClock}
use Rattle.shared_logs.specs.Coming.{HasCaughtUp, HasStepped}
use Rattle.shared_logs.specs.Seen.{HasSeen}
use Rattle.shared_logs.specs.Shared.{LogPassView}
use Rattle.shared_logs.specs.Amid.{amid}
use Rattle.shared_calls.specs.Finished.{WasDelayed, WasFinished, WasStopped}
use Rattle.shared_calls.specs.Fresh.{AreFresh, IsFresh, gauge_for}
use Rattle.shared_calls.specs.Looks.{HaveLooked, HaveStopped, IsAt, WasWon}
use Rattle.shared_calls.specs.Seen.{seen_as}
use Rattle.shared_calls.proofs.Looks.{fresh_none, so}
use Rattle.shared_logs.proofs.Laws.{clock_grown, clock_left, grown_on, left_on, left_stepped, same_on, same_stepped}
use Rattle.shared_calls.proofs.Passes.{seen_histories, stepped_grown}
use Rattle.shared_calls.proofs.Rising.{fresh_rises}
use Rattle.shared_calls.proofs.Seen.{parts_are, shown_is}

module _ (seq : ℕ) (request : Request) (accepted : List Accepted) (op : Operation) where
  -- ---- a call that was delayed

  module _ (config : Configuration) (a : LogPassView) (front : List Transcript) (transcript : Transcript) (call : Call) (w : Waiting) (d : WasDelayed config seq request accepted op a front transcript call w) where
    -- with no points yet
    delayed_so : IsDelayed (so config front transcript call a.number a.parts a.clock []) w
    delayed_so = subst (λ (ps : List Point). IsDelayed (so config front transcript call a.number a.parts a.clock ps) w) d.unfinished d.delayed

    parts_so : operation_parts w.steps ≡ parts_asked accepted
    parts_so = parts_are w.steps ∙ ap parts_asked d.results

  -- ---- it was satisfied

  -- states that are fresh satisfy it too
  satisfied_by : (moment : ℕ) (values : List ℕ) (all : List State) → op ≡ operation_of request.ask accepted moment → IsSatisfied op values → length all ≡ length (parts_asked accepted)
      → AreFresh (IsFresh (gauge_for request.ask) op.needs values) (parts_asked accepted) all → IsSatisfied op (values_of request.ask (seen_as accepted all))
  satisfied_by moment values all is enough size fresh =
      let needs : op.needs ≡ needs_of request.ask accepted = ap (λ (o : Operation). o.needs) is in
      let rises = fresh_rises request.ask accepted all values size (subst (λ (ns : List Need). AreFresh (IsFresh (gauge_for request.ask) ns values) (parts_asked accepted) all) needs fresh) in
      let here : tally op.needs values ≤ tally op.needs (values_of request.ask (seen_as accepted all)) =
      subst (λ (ns : List Need). tally ns values ≤ tally ns (values_of request.ask (seen_as accepted all))) (sym needs) rises in
      omega (arith, enough, here)

  pub won_satisfied : (moment : ℕ) (values : List ℕ) (a b : LogPassView) → HasStepped a b → KeepsOperation (caller_now a.seat) (caller_now b.seat) → op ≡ operation_of request.ask accepted moment → IsSatisfied op values
      → WasWon seq request accepted op How.Satisfied (IsFresh (gauge_for request.ask) op.needs values) a b []
  won_satisfied moment values a b stepped kept is enough = record {
    same = same_stepped a b stepped kept;
    ticked = stepped.ticked;
    grown = stepped_grown a b stepped;
    left = left_stepped seq a b stepped;
    late = None;
    late_is = tt;
    goes = λ config front transcript call w d.
        let start = finishing_won (so config front transcript call a.number a.parts a.clock []) w (delayed_so config a front transcript call w d) refl in
        let as_stepped : so config front transcript call a.number a.parts a.clock [] ≡ so config front transcript call b.number b.parts b.clock [] =
        ap (λ n. so config front transcript call n a.parts a.clock []) (sym stepped.number)
        ∙ ap (λ ps. so config front transcript call b.number ps a.clock []) (sym stepped.parts)
        ∙ ap (λ (c : List ClockEvent). so config front transcript call b.number b.parts c []) (sym stepped.clock)
        in
        let parts = parts_so config a front transcript call w d in
        let fresh = IsFresh (gauge_for request.ask) op.needs values in
        record {
          number = d.number;
          finishing = subst (λ (u : Underway). IsFinishing u w None []) as_stepped start;
          next_are = parts;
          are_fresh = fresh_none fresh (operation_parts w.steps);
          enough = λ none all size are.
              let by_results : values_of request.ask (seen_as accepted all) ≡ values_of w.request.ask (shown_with w.steps all) =
              ap (λ (r : Request). values_of r.ask (seen_as accepted all)) (sym d.request_is)
              ∙ ap (λ (xs : List Accepted). values_of w.request.ask (seen_as xs all)) (sym d.results)
              ∙ ap (values_of w.request.ask) (sym (shown_is w.steps all))
              in
              let satisfied = satisfied_by moment values all is enough (size ∙ ap (λ (ps : List ℕ). length ps) parts) (subst (λ (ps : List ℕ). AreFresh fresh ps all) parts are) in
              subst (λ (vs : List ℕ). IsSatisfied w.operation vs) by_results (subst (λ (o : Operation). IsSatisfied o (values_of request.ask (seen_as accepted all))) (sym d.operation) satisfied);
        };
  }

  -- ---- it expired

  pub won_late : (fresh : ℕ → State → Type 0) (a b : LogPassView) (place moment : ℕ) (points : List Point) → HasLookedAtClock seq op.deadline a b place moment → points ≡ record { part = clock_part; place = place } ∷ []
      → HasSeen a → HasSeen b → WasWon seq request accepted op How.Expired fresh a b points
  won_late fresh a b place moment points looked is before after = record {
    same = looked.same;
    ticked = looked.ticked;
    grown = clock_grown seq op.deadline a b place moment looked;
    left = clock_left seq op.deadline a b place moment looked;
    late = Some (clock_point looked.found);
    late_is = tt;
    goes = λ config front transcript call w d.
        let s = seq_of (amid config front transcript a call) in
        let u = so config front transcript call a.number a.parts a.clock [] in
        let v = so config front transcript call a.number a.parts looked.found [] in
        let delayed = delayed_so config a front transcript call w d in
        let ticks : IsStrictlyIncreasing (0 ∷ ticks_of looked.found) =
        subst (λ (ts : List ℕ). IsStrictlyIncreasing (0 ∷ ts)) (ap ticks_of looked.clock ∙ ticks_looked looked.found a.number seq) after.ticks in
        let histories = clock_histories config a.parts a.clock looked.found ticks delayed.underway.histories in
        let there = others_delayed u w a.parts looked.found looked.others.grown looked.others.within histories delayed in
        let deadline : w.operation.deadline ≡ op.deadline = ap (λ (o : Operation). o.deadline) d.operation in
        let overdue : w.operation.deadline ≤ moment_of looked.found = omega (arith, deadline, looked.late, looked.moment_is) in
        let start = finishing_late v w there refl overdue in
        let as_left : late_seen v ≡ so config front transcript call b.number b.parts b.clock points =
        ap (λ n. so config front transcript call a.number a.parts (looked.found ++ clocks.Look a.number n ∷ []) (clock_point looked.found ∷ [])) d.number
        ∙ ap (λ (c : List ClockEvent). so config front transcript call a.number a.parts c (clock_point looked.found ∷ [])) (sym looked.clock)
        ∙ ap (λ n. so config front transcript call a.number a.parts b.clock (record { part = clock_part; place = n } ∷ [])) (sym looked.place_is)
        ∙ ap (λ (ps : List Point). so config front transcript call a.number a.parts b.clock ps) (sym is)
        ∙ ap (λ hs. so config front transcript call a.number hs b.clock points) (sym looked.parts)
        ∙ ap (λ n. so config front transcript call n b.parts b.clock points) (sym looked.same.number)
        in
        record {
          number = d.number;
          finishing = subst (λ (x : Underway). IsFinishing x w (Some (clock_point looked.found)) []) as_left start;
          next_are = parts_so config a front transcript call w d;
          are_fresh = fresh_none fresh (operation_parts w.steps);
          enough = λ none all size are. absurd (some_late none);
        };
  }
    where
      some_late : Some (clock_point looked.found) ≡ None → ⊥
      some_late e = cc

  -- ---- and came to its end

  pub finished : (how : How) (fresh : ℕ → State → Type 0) (a m b : LogPassView) (p q : List Point) (states : List State) (readings : List Reading) → WasWon seq request accepted op how fresh a m p → HaveLooked seq fresh m p accepted b q states
      → AreReadings request.ask accepted readings (seen_as accepted states) → WasFinished seq request accepted op how a b q readings
  finished how fresh a m b p q states readings won looked read = record {
    same = same_on a m b won.same looked.same;
    ticked = looked.ticked ∙ won.ticked;
    grown = grown_on a.parts m.parts b.parts a.clock m.clock b.clock won.grown looked.grown;
    left = left_on seq a m b won.same.number won.left looked.left;
    late = won.late;
    late_is = won.late_is;
    states = states;
    goes = λ config front transcript call w d.
        let start = won.goes config front transcript call w d in
        let at = looked.goes [] config front transcript call w won.late [] (subst (λ (zs : List Accepted). IsAt seq fresh m p zs config front transcript call w won.late []) (sym (append-nil accepted)) start) in
        let shown : shown_with w.steps states ≡ seen_as accepted states = shown_is w.steps states ∙ ap (λ (xs : List Accepted). seen_as xs states) d.results in (
          at.finishing,
          looked.size ∙ ap (λ (ps : List ℕ). length ps) (sym (parts_so config a front transcript call w d)),
          subst (AreReadings request.ask accepted readings) (sym shown) read,
        );
  }

  pub stopped_won : (how : How) (fresh : ℕ → State → Type 0) (a m b : LogPassView) (p q : List Point) → WasWon seq request accepted op how fresh a m p → HaveStopped seq fresh m p accepted b q → WasStopped seq request accepted op a b q
  stopped_won how fresh a m b p q won stopped = record {
    same = same_on a m b won.same stopped.same;
    ticked = stopped.ticked ∙ won.ticked;
    grown = grown_on a.parts m.parts b.parts a.clock m.clock b.clock won.grown stopped.grown;
    late = won.late;
    states = stopped.states;
    goes = λ config front transcript call w d.
        let start = won.goes config front transcript call w d in
        stopped.goes [] config front transcript call w won.late [] (subst (λ (zs : List Accepted). IsAt seq fresh m p zs config front transcript call w won.late []) (sym (append-nil accepted)) start);
  }

  -- others alone did anything
  pub caught_up_won : (a b : LogPassView) (points : List Point) → points ≡ [] → HasCaughtUp a b → HasSeen a → HasSeen b → WasStopped seq request accepted op a b points
  caught_up_won a b points none came before after = record {
    same = came.same;
    ticked = came.ticked;
    grown = came.others.grown;
    late = None;
    states = [];
    goes = λ config front transcript call w d.
        let u = so config front transcript call a.number a.parts a.clock [] in
        let start = finishing_won u w (delayed_so config a front transcript call w d) refl in
        let histories = seen_histories config a b before after came.same.made d.delayed.underway.histories in
        let on = others_finishing u w None [] b.parts b.clock came.others.grown came.others.within histories start in
        let as_left : so config front transcript call a.number b.parts b.clock [] ≡ so config front transcript call b.number b.parts b.clock points =
        ap (λ n. so config front transcript call n b.parts b.clock []) (sym came.same.number) ∙ ap (λ (ps : List Point). so config front transcript call b.number b.parts b.clock ps) (sym none) in
        subst (λ (x : Underway). IsFinishing x w None []) as_left on;
  }
