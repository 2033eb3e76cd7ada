use Rattle.std.proofs.Common.{arith}
use Rattle.purgatory.proofs.Rings.{popped_len, ring_step}
use Rattle.purgatory.proofs.making.longer_rows.Goals as goal

pub loop-row-preserved : goal.loop-row-preserved
loop-row-preserved c =
    let i = c.loop-row.invariant in
    let rows = c.in-Some.ensures.items in
    let passes = c.in-Some-pop.ensures.items in
    let longer = c.in_ok-push.ensures.ok in
    let more = c.in_ok-push-2.ensures.ok in
    let a = popped_len c.loop-row.rows c.pop.new.self c.in-Some.row rows in
    let b = popped_len c.loop-row.passes c.pop-in-Some.new.self c.in-Some-pop.pass passes in
    let d = popped_len c.push-in-Some.new.self c.loop-row.longer c.push.new.self more in
    let same = i.same in
    let count = i.count in
    record {
      same = omega (arith, a, b, same);
      count = omega (arith, a, d, count);
      each = λ locks lock r p.
          ring_step locks lock c.loop-row.rows c.pop.new.self c.in-Some.row c.push.new.self c.loop-row.passes c.pop-in-Some.new.self c.in-Some-pop.pass c.loop-row.longer c.push-in-Some.new.self
          rows passes longer more (i.each locks lock r p);
    }

pub returns-clause-rows : goal.returns-clause-rows
returns-clause-rows c = λ locks lock r p. (c.loop-row.invariant.each locks lock r p).2
