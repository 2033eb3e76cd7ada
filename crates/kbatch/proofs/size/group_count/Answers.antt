use Rattle.std.proofs.Common.{◌≡◌, ◌+◌, ◌-◌, length, arith, ap}
use Rattle.kbytes.specs.Field.{groups}
use Rattle.kbatch.proofs.Sizes.{groups_one, groups_last, groups_step}
use Rattle.kbatch.proofs.size.group_count.Goals as goal

pub returns-then-rest-lt128-clause-count : goal.returns-then-rest-lt128-clause-count
returns-then-rest-lt128-clause-count c =
    omega (arith, c.loop.invariant.so_far, groups_one (c.args.more - c.loop.counter) c.loop.rest c.if-rest-lt128.true)

pub loop-preserved : goal.loop-preserved
loop-preserved c = record {
  so_far = groups_step c.loop.count c.loop.rest c.loop.counter c.args.more (1 + length (groups c.args.more c.args.number)) c.loop-test.true c.if-rest-lt128.false c.loop.invariant.so_far;
  few = omega (arith, c.loop.invariant.few);
}

pub returns-clause-count : goal.returns-clause-count
returns-clause-count c =
    let none : c.args.more - c.loop.counter ≡ 0 = omega arith in
    omega (arith, c.loop.invariant.so_far, ap (λ n. length (groups n c.loop.rest)) none, groups_last c.loop.rest)
