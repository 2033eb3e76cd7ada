use Rattle.std.proofs.Common.{◌∙◌, rules}
use Rattle.shared_logs.proofs.Laws.{operation_on}
use Rattle.room_table.specs.Seats.{caller_now}
use Rattle.shared_calls.proofs.Passes.{reading_keeps, stepped_on}
use Rattle.shared_calls.proofs.values.read_values.Goals as goal

pub loop-at-preserved : goal.loop-at-preserved
loop-at-preserved c =
    let start = c.args.pass.now in
    let before = c.loop-at.pass in
    let after = c.gauge.new.pass in
    let i = c.loop-at.invariant in
    let e = c.gauge.ensures in
    let kept = reading_keeps before.seat after.seat _ _ e.step in
    record {
      size = search rules;
      made = e.stepped.made ∙ i.made;
      stepped = stepped_on start before after i.stepped e.stepped;
      kept = operation_on (caller_now start.seat) (caller_now before.seat) (caller_now after.seat) i.kept kept;
    }
