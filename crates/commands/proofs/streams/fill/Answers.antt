use Rattle.std.proofs.Common.{arith, rules}
use Rattle.commands.proofs.Writes.{filled}
use Rattle.commands.proofs.streams.fill.Goals as goal

pub loop-count-preserved : goal.loop-count-preserved
loop-count-preserved g c =
    let i = c.loop-count.invariant in
    let came = c.in_ok-came.ensures in record {
      consumed = filled (g.S.Source.left c.args.source.now) (g.S.Source.left c.loop-count.source) (g.S.Source.left c.read.new.self) c.loop-count.room c.read.new.into c.loop-count.count
          c.in_ok-came.came _ i.within came.bound.0 i.consumed came.bytes.0;
      later = omega (arith, i.later, came.cause.later);
      within = search rules;
      size = search rules;
    }
