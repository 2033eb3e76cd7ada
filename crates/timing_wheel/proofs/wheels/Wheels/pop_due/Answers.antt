use Rattle.std.proofs.Common.{◌==◌, ℕ, List, Option, None, cond, get_or, ap, sym, ◌∙◌, arith, option_map}
use Rattle.std.proofs.lemmas.List.Sorted.{sum_by-IsPermutation}
use Rattle.timing_wheel.specs.declared.timer.Timer.{Timer}
use Rattle.timing_wheel.specs.Timers.{Timers, deadline_of}
use Rattle.timing_wheel.specs.Handover.{owed}
use Rattle.timing_wheel.proofs.DueIds.{handed_once, rising_once, contains_counted, counted_contains, owed_at_most_one, due_owed, owed_due}
use Rattle.timing_wheel.proofs.Passes.{turned_deadlines}
use Rattle.timing_wheel.proofs.wheels.Wheels.pop_due.Goals as goal

pub returns-clause-rising : goal.returns-clause-rising
returns-clause-rising c =
    rising_once c.sort.new.self.ids c.sort.ensures.rising (λ id.
    let sorted = sum_by-IsPermutation (λ (x : ℕ). cond (x == id) 1 0) c.turn.new.due.ids c.sort.new.self.ids c.sort.ensures.same in
    let n = handed_once c.args.t c.self.inside.entries c.args.due.now c.turn.new.due.ids c.sort.new.self.ids id c.requires.empty sorted (c.turn.ensures.hands id) in
    let most = owed_at_most_one c.args.t (get_or c.self.inside.entries id None) in
    omega arith)

pub returns-clause-due : goal.returns-clause-due
returns-clause-due c = λ id.
    let sorted = sum_by-IsPermutation (λ (x : ℕ). cond (x == id) 1 0) c.turn.new.due.ids c.sort.new.self.ids c.sort.ensures.same in
    let n = handed_once c.args.t c.self.inside.entries c.args.due.now c.turn.new.due.ids c.sort.new.self.ids id c.requires.empty sorted (c.turn.ensures.hands id) in
    let same = ap (λ (w : Timers). owed c.args.t (get_or w.slots id None)) c.self.view_is in (
      (λ in_it. let some = counted_contains c.sort.new.self.ids id in_it in due_owed c.args.t (get_or c.args.self.now.slots id None) (omega arith)),
      (λ due. let some = owed_due c.args.t (get_or c.args.self.now.slots id None) due in contains_counted c.sort.new.self.ids id (omega arith)),
    )

pub returns-clause-others : goal.returns-clause-others
returns-clause-others c = λ id deadline.
    let slots = c.self.inside.entries in
    let same = ap (λ (w : Timers). deadline_of w id) c.self.view_is in
    let new = ap (λ (xs : List (Option Timer)). option_map (λ (e : Timer). e.deadline) (get_or xs id None)) c.turn.ensures.turned in
    let r = turned_deadlines c.args.t slots id deadline in
    ((λ h. let k = r.0 (sym new ∙ h) in (sym same ∙ k.0, k.1)), (λ h. new ∙ r.1 (same ∙ h.0, h.1)))
