use Rattle.std.proofs.Common.{◌∙◌, arith}
use Rattle.purgatory.proofs.Describing.{described_more, describes_far}
use Rattle.purgatory.proofs.room.Room.describe.Goals as goal

pub loop-i-init : goal.loop-i-init
loop-i-init c =
    let old = c.args.owner.now in
    let a = c.describe.new.self in
    let b = c.describe-2.new.self in
    let d = c.describe-3.new.self in
    let first = c.describe.ensures in
    let second = c.describe-2.ensures in
    let third = c.describe-3.ensures in
    record {
      describes = describes_far old b d (describes_far old a b first.describes second.describes) third.describes;
      least = third.others 0 (λ e. omega (arith, e)) ∙ second.others 0 (λ e. omega (arith, e)) ∙ first.here ∙ c.min.ensures;
      deadline = third.others 1 (λ e. omega (arith, e)) ∙ second.here ∙ c.deadline.ensures;
      count = third.here;
      needs = λ i need less. absurd (omega (arith, less));
    }

pub loop-i-preserved : goal.loop-i-preserved
loop-i-preserved c =
    let i = c.loop-i.invariant in
    let old = c.args.owner.now in
    let now = c.loop-i.owner in
    let new = c.describe_need.new.owner in
    let n = c.loop-i.i in
    let step = c.describe_need.ensures in
    record {
      describes = describes_far old now new i.describes step.describes;
      least = step.before 0 (omega arith) ∙ i.least;
      deadline = step.before 1 (omega arith) ∙ i.deadline;
      count = step.before 2 (omega arith) ∙ i.count;
      needs = described_more c.needs-needs.result.now now new n _ step c.loop-i-test.true i.needs;
    }
