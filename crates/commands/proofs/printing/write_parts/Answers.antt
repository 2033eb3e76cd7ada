use Rattle.trace_workers.specs.Telling.{part_text}
use Rattle.commands.proofs.Writes.{front_of_items, on_any_err}
use Rattle.commands.proofs.printing.write_parts.Goals as goal

pub returns-in_err-write_part-clause-front : goal.returns-in_err-write_part-clause-front
returns-in_err-write_part-clause-front g c =
    let old = g.K.Sink.written c.args.sink.now in
    let before = g.K.Sink.written c.loop-part.sink in
    let new = g.K.Sink.written c.write_part.new.sink in
    on_any_err c.from_residual.result _
    (front_of_items (part_text c.args.account.now) old before new c.args.parts.now c.loop-part.part-index c.part-item.result c.loop-part-test.true c.part-item.is c.loop-part.invariant.written c.in_err-write_part.ensures.front)
