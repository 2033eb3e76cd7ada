use Rattle.std.proofs.Common.{◌≤◌, ℕ, List, subst, take, length, ap}
use Rattle.shared_logs.proofs.Laws.{operation_on}
use Rattle.opcond.specs.declared.need.Need.{Need}
use Rattle.opcond.specs.Tally.{IsSatisfied}
use Rattle.room_table.specs.Seats.{caller_now}
use Rattle.shared_calls.proofs.Passes.{stepped_on}
use Rattle.shared_calls.proofs.Rising.{tally_taken}
use Rattle.shared_calls.proofs.values.satisfying.Goals as goal

pub returns-then-is_satisfied-clause-stepped : goal.returns-then-is_satisfied-clause-stepped
returns-then-is_satisfied-clause-stepped g c =
    stepped_on c.args.pass.now c.loop.pass c.read_values-values.new.pass c.loop.invariant.stepped c.read_values-values.ensures.stepped

pub returns-then-is_satisfied-clause-satisfied : goal.returns-then-is_satisfied-clause-satisfied
returns-then-is_satisfied-clause-satisfied g c =
    let values = c.read_values-values.result in
    let needs = c.args.op.now.needs in
    let size = ap (λ (ns : List Need). take (length ns) values) c.needs-needs.ensures.items in
    subst (λ n. c.args.op.now.least ≤ n) (tally_taken needs values)
    (subst (λ (vs : List ℕ). IsSatisfied c.args.op.now vs) size (c.is_satisfied.ensures.0 c.if-is_satisfied.true))

pub loop-preserved : goal.loop-preserved
loop-preserved g c =
    let start = c.args.pass.now in
    let before = c.loop.pass in
    let after = c.read_values-values.new.pass in
    let i = c.loop.invariant in
    let e = c.read_values-values.ensures in
    record {
      made = e.made;
      stepped = stepped_on start before after i.stepped e.stepped;
      kept = operation_on (caller_now start.seat) (caller_now before.seat) (caller_now after.seat) i.kept e.kept;
    }
