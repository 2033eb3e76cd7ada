use Rattle.std.proofs.Common.{◌<◌, length, sym, subst, ◌∙◌}
use Rattle.std.proofs.lemmas.Bool.{OnTrue_at, OnFalse_at}
use Rattle.partlog.specs.History.{History}
use Rattle.partlog.specs.Shrunk.{late_at}
use Rattle.partlog.proofs.Shrinking.{IsShrinking, fewer, shrinking-more, shrinking-last}
use Rattle.partlog.proofs.part_log.PartLog.shrink_all.Goals as goal

pub loop-preserved : goal.loop-preserved
loop-preserved c =
    let left = OnTrue_at c.if-branch.true c.in_ok-shrink.ensures.left in
    subst (λ (h : History). IsShrinking c.args.self.now h c.args.by c.args.t) (sym left.2) (shrinking-more c.args.self.now c.args.by c.args.t c.loop.self c.loop.invariant left.0 left.1)

pub loop-smaller : goal.loop-smaller
loop-smaller c =
    let left = OnTrue_at c.if-branch.true c.in_ok-shrink.ensures.left in
    subst (λ (h : History). length (late_at h c.args.t) < length (late_at c.loop.self c.args.t)) (sym left.2) (fewer c.args.self.now c.args.by c.args.t c.loop.self c.loop.invariant left.0 left.1)

pub returns-clause-all : goal.returns-clause-all
returns-clause-all c =
    let none = OnFalse_at c.if-branch.false c.in_ok-shrink.ensures.none in
    none.1 ∙ shrinking-last c.args.self.now c.args.by c.args.t c.loop.self c.loop.invariant none.0
