use Rattle.std.proofs.Common.{ℤ, pos, sym, ap, subst, ◌∙◌}
use Rattle.std.proofs.lemmas.Int.{to_z-of_z}
use Rattle.std.specs.Int.{w32}
use lib.Signed.{le_z}
use Rattle.partlog.specs.State.{state_of}
use Rattle.kanswer.specs.Decisions.{Looked, fetch_outcome, in_range_outcome}
use Rattle.kanswer.specs.Entered.{HasEntered}
use Rattle.kanswer.proofs.Putting.{if_ok}
use Rattle.kanswer.proofs.Fetching.{above, consumes, entered_alike, negative}
use Rattle.kanswer.proofs.fetch.enter_fetch.Goals as goal

pub follow-requires : goal.follow-requires
follow-requires c = above _ c.if-replica-ge0.true

pub returns-then-replica-ge0-clause-entered : goal.returns-then-replica-ge0-clause-entered
returns-then-replica-ge0-clause-entered c =
    if_ok c.follow.result c.follow.ensures.entered (λ came e.
    subst (λ (z : ℤ). HasEntered c.args.visitor.who.by c.args.visitor.who.seq c.args.visitor.moment (fetch_outcome c.args.log.now.followers z c.args.asked.now c.args.part) c.args.log.now c.follow.new.log came)
    (to_z-of_z w32 c.args.replica c.ranges.replica) e)

pub returns-else-replica-ge0-clause-entered : goal.returns-else-replica-ge0-clause-entered
returns-else-replica-ge0-clause-entered c =
    let n = negative c.args.replica (ap (le_z (pos 0)) (sym (to_z-of_z w32 c.args.replica c.ranges.replica)) ∙ c.if-replica-ge0.false) in
    if_ok c.consume.result c.consume.ensures.entered (λ came e.
    entered_alike c.args.visitor.who.by c.args.visitor.who.seq c.args.visitor.moment (in_range_outcome c.args.part c.args.asked.now.offset Looked) (fetch_outcome c.args.log.now.followers c.args.replica c.args.asked.now c.args.part) c.args.log.now c.consume.new.log came
    (consumes c.args.log.now.followers c.args.part c.args.replica n.0 c.args.asked.now (state_of c.args.log.now) n.1) e)
