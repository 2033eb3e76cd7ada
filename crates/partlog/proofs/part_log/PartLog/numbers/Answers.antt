use Rattle.std.proofs.Common.{length, arith, ap, ◌∙◌, subst}
use Rattle.partlog.specs.Boundary.{IsBoundary}
use Rattle.partlog.specs.History.{History}
use Rattle.partlog.specs.State.{state_of}
use Rattle.partlog.proofs.Gathered.{visible_within}
use Rattle.partlog.proofs.Replicas.{high-within}
use Rattle.partlog.proofs.Tracking.{tracked-scanned}
use Rattle.partlog.proofs.Whole.{kept-end, kept-boundary}
use Rattle.partlog.proofs.part_log.PartLog.numbers.Goals as goal

pub returns-clause-end : goal.returns-clause-end
returns-clause-end c =
    let seen = tracked-scanned c.self.inside.log c.self.inside.followers c.self.inside.events c.self.inside.starts.items c.self.inside.replicas c.self.inside.numbers c.self.invariant in
    omega (arith, seen.end, kept-end c.self.inside.log c.self.inside.events c.self.invariant.kept)

pub returns-clause-high : goal.returns-clause-high
returns-clause-high c =
    let seen = tracked-scanned c.self.inside.log c.self.inside.followers c.self.inside.events c.self.inside.starts.items c.self.inside.replicas c.self.inside.numbers c.self.invariant in
    omega (arith, seen.high, seen.end, high-within c.self.inside.followers c.self.inside.events)

pub returns-clause-visible : goal.returns-clause-visible
returns-clause-visible c =
    visible_within _ _ _ _ c.self.invariant.kept (tracked-scanned c.self.inside.log c.self.inside.followers c.self.inside.events c.self.inside.starts.items c.self.inside.replicas c.self.inside.numbers c.self.invariant)

pub returns-clause-boundary : goal.returns-clause-boundary
returns-clause-boundary c =
    let seen = tracked-scanned c.self.inside.log c.self.inside.followers c.self.inside.events c.self.inside.starts.items c.self.inside.replicas c.self.inside.numbers c.self.invariant in
    let Ends : History → Type 0 = λ h. IsBoundary c.self.inside.numbers.visible (state_of h).batches in
    subst Ends c.self.view_is (kept-boundary c.self.inside.log c.self.inside.events c.self.invariant.kept c.self.inside.numbers.high c.self.inside.numbers.visible seen.visible)

pub returns-clause-bytes : goal.returns-clause-bytes
returns-clause-bytes c =
    let seen = tracked-scanned c.self.inside.log c.self.inside.followers c.self.inside.events c.self.inside.starts.items c.self.inside.replicas c.self.inside.numbers c.self.invariant in
    omega (arith, seen.bytes, c.self.invariant.kept.bounded)

pub returns-clause-all : goal.returns-clause-all
returns-clause-all c =
    let seen = tracked-scanned c.self.inside.log c.self.inside.followers c.self.inside.events c.self.inside.starts.items c.self.inside.replicas c.self.inside.numbers c.self.invariant in
    seen.bytes ∙ ap (λ (h : History). length h.log) c.self.view_is
