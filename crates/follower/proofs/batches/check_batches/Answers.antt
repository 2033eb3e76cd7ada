use Rattle.std.proofs.Common.{◌≡◌, ◌+◌, ◌∙◌, subst}
use Rattle.kbatch.specs.Kept.{count_of}
use Rattle.follower.specs.Checking.{HasReached}
use Rattle.follower.proofs.Rows.{behind_part, reached_none, reached_on}
use Rattle.follower.proofs.Steps.{none_left}
use Rattle.follower.proofs.batches.check_batches.Goals as goal

pub loop-rest-init : goal.loop-rest-init
loop-rest-init c = reached_none c.args.from c.args.records.now

pub loop-rest-preserved : goal.loop-rest-preserved
loop-rest-preserved c =
    let next = c.in-Ok.ensures.batch in
    let rest = c.loop-rest.rest.now in
    let batch = c.in-Ok.batch in
    let kept : c.from-end.result ≡ count_of batch = c.from-end.ensures ∙ c.count.ensures.kept in
    let on = reached_on c.args.from c.args.records.now c.loop-rest.count c.loop-rest.end rest batch next.after c.loop-rest.invariant next.parts next.is_batch next.base
    (rw c.count.ensures.kept at c.count.ensures.below) (rw c.count.ensures.kept at c.count.ensures.some_record) in
    rw (kept, c.behind-rest.ensures) (subst (HasReached c.args.from c.args.records.now (c.loop-rest.count + 1) (c.loop-rest.end + count_of batch)) (behind_part rest c.bytes.result.now batch next.after next.parts c.bytes.ensures.bytes) on)

pub returns-clause-batches : goal.returns-clause-batches
returns-clause-batches c = subst (HasReached c.args.from c.args.records.now c.loop-rest.count c.loop-rest.end) (none_left c.loop-rest.rest.now c.loop-rest-test.ensures) c.loop-rest.invariant
