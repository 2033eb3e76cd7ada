use Rattle.std.proofs.Common.{◌≤◌, length, ap, ◌∙◌, subst}
use Rattle.partlog.specs.Batches.{batches_of}
use Rattle.partlog.specs.Boundary.{IsBoundary}
use Rattle.partlog.specs.History.{History}
use Rattle.partlog.specs.Start.{start_of}
use Rattle.partlog.specs.State.{state_of}
use Rattle.partlog.proofs.Tracking.{tracked-starts}
use Rattle.partlog.proofs.Whole.{kept-below, kept-boundary}
use Rattle.partlog.proofs.part_log.PartLog.locate.Goals as goal

pub start_of-requires : goal.start_of-requires
start_of-requires c =
    (batches_of c.self.inside.events c.self.inside.log, rw (c.as_slice.ensures.value, c.next_start.ensures) (tracked-starts c.self.inside.log c.self.inside.followers c.self.inside.events c.self.inside.starts.items c.self.inside.replicas c.self.inside.numbers c.self.invariant))

pub returns-clause-start : goal.returns-clause-start
returns-clause-start c =
    c.start_of.ensures (batches_of c.self.inside.events c.self.inside.log) (rw (c.as_slice.ensures.value, c.next_start.ensures) (tracked-starts c.self.inside.log c.self.inside.followers c.self.inside.events c.self.inside.starts.items c.self.inside.replicas c.self.inside.numbers c.self.invariant))
    ∙ ap (λ (h : History). start_of c.args.offset (state_of h)) c.self.view_is

pub returns-clause-within : goal.returns-clause-within
returns-clause-within c =
    let start = c.start_of.ensures (batches_of c.self.inside.events c.self.inside.log) (rw (c.as_slice.ensures.value, c.next_start.ensures) (tracked-starts c.self.inside.log c.self.inside.followers c.self.inside.events c.self.inside.starts.items c.self.inside.replicas c.self.inside.numbers c.self.invariant)) in
    let Within : History → Type 0 = λ h. c.start_of.result ≤ length h.log in
    subst Within c.self.view_is (kept-below c.self.inside.log c.self.inside.events c.self.invariant.kept c.args.offset c.start_of.result start)

pub returns-clause-boundary : goal.returns-clause-boundary
returns-clause-boundary c =
    let start = c.start_of.ensures (batches_of c.self.inside.events c.self.inside.log) (rw (c.as_slice.ensures.value, c.next_start.ensures) (tracked-starts c.self.inside.log c.self.inside.followers c.self.inside.events c.self.inside.starts.items c.self.inside.replicas c.self.inside.numbers c.self.invariant)) in
    let Ends : History → Type 0 = λ h. IsBoundary c.start_of.result (state_of h).batches in
    subst Ends c.self.view_is (kept-boundary c.self.inside.log c.self.inside.events c.self.invariant.kept c.args.offset c.start_of.result start)
