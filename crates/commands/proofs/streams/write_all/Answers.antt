use Rattle.std.proofs.Common.{◌-◌, length, drop, arith, length-take, length-drop}
use Rattle.commands.proofs.Writes.{appends_on}
use Rattle.commands.proofs.streams.write_all.Goals as goal

pub loop-done-preserved : goal.loop-done-preserved
loop-done-preserved g c =
    let part = c.args.part.now in
    let done = c.loop-done.done in
    let n = c.in_ok-count.count in
    record {
      written = appends_on (g.K.Sink.written c.args.sink.now) (g.K.Sink.written c.loop-done.sink) (g.K.Sink.written c.write.new.self) part done n (length part - done) (omega (arith, c.in_ok-count.ensures.bound, length-drop done part, length-take (length part - done) (drop done part))) c.loop-done.invariant.written c.in_ok-count.ensures.bytes;
      later = omega (arith, c.in_ok-count.ensures.cause.later, c.loop-done.invariant.later);
      within = omega (arith, c.in_ok-count.ensures.bound, length-drop done part, length-take (length part - done) (drop done part));
    }
