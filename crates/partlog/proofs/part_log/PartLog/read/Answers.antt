use Rattle.std.proofs.Common.{◌≤◌, ◌-◌, not, length, take, drop, arith, ap, ◌∙◌, rules}
use Rattle.partlog.specs.Batches.{batches_of}
use Rattle.partlog.specs.History.{History}
use Rattle.partlog.specs.Taken.{batches_past, batches_upto, taken, joined}
use Rattle.partlog.specs.Starts.{AreStarts}
use Rattle.partlog.specs.State.{state_of}
use Rattle.partlog.proofs.Tracking.{tracked-starts, tracked-scanned}
use Rattle.partlog.proofs.Whole.{kept-bytes, read-within, read-bytes}
use Rattle.partlog.proofs.part_log.PartLog.read.Goals as goal

pub start_from-start-requires : goal.start_from-start-requires
start_from-start-requires c = ((batches_of c.self.inside.events c.self.inside.log), (rw (c.as_slice-starts.ensures.value, c.next_start-next.ensures) (tracked-starts c.self.inside.log c.self.inside.followers c.self.inside.events c.self.inside.starts.items c.self.inside.replicas c.self.inside.numbers c.self.invariant)))

pub taken_end-end-requires-clause-placed : goal.taken_end-end-requires-clause-placed
taken_end-end-requires-clause-placed c = ((batches_of c.self.inside.events c.self.inside.log), (rw (c.as_slice-starts.ensures.value, c.next_start-next.ensures) (tracked-starts c.self.inside.log c.self.inside.followers c.self.inside.events c.self.inside.starts.items c.self.inside.replicas c.self.inside.numbers c.self.invariant)))

pub taken_end-end-requires-clause-within : goal.taken_end-end-requires-clause-within
taken_end-end-requires-clause-within c =
    let are : AreStarts c.as_slice-starts.result.now c.next_start-next.result (batches_of c.self.inside.events c.self.inside.log) = (rw (c.as_slice-starts.ensures.value, c.next_start-next.ensures) (tracked-starts c.self.inside.log c.self.inside.followers c.self.inside.events c.self.inside.starts.items c.self.inside.replicas c.self.inside.numbers c.self.invariant)) in
    let at = c.start_from-start.ensures (batches_of c.self.inside.events c.self.inside.log) are in
    omega (arith, at, are.place)

pub taken_end-end-requires-clause-fits : goal.taken_end-end-requires-clause-fits
taken_end-end-requires-clause-fits c =
    let seen = tracked-scanned c.self.inside.log c.self.inside.followers c.self.inside.events c.self.inside.starts.items c.self.inside.replicas c.self.inside.numbers c.self.invariant in
    let next = ap (λ n. n.place) c.next_start-next.ensures in
    omega (arith, next, seen.bytes, c.self.invariant.kept.bounded)

pub slice_bounds-result-count : goal.slice_bounds-result-count
slice_bounds-result-count c =
    let log = c.self.inside.log in
    let all = kept-bytes log c.self.inside.events c.self.invariant.kept in
    let at = c.start_from-start.ensures (batches_of c.self.inside.events c.self.inside.log) (rw (c.as_slice-starts.ensures.value, c.next_start-next.ensures) (tracked-starts c.self.inside.log c.self.inside.followers c.self.inside.events c.self.inside.starts.items c.self.inside.replicas c.self.inside.numbers c.self.invariant)) in
    let ends = c.taken_end-end.ensures (batches_of c.self.inside.events c.self.inside.log) c.args.from (rw (c.as_slice-starts.ensures.value, c.next_start-next.ensures) (tracked-starts c.self.inside.log c.self.inside.followers c.self.inside.events c.self.inside.starts.items c.self.inside.replicas c.self.inside.numbers c.self.invariant)) at in
    let within = read-within log c.self.inside.events c.self.invariant.kept c.args.from c.start_from-start.result c.args.upto c.args.limit c.taken_end-end.result (not c.args.force) (at ∙ all) ends in
    let low = within.0 in
    search rules

pub slice_bounds-result-start : goal.slice_bounds-result-start
slice_bounds-result-start c =
    let log = c.self.inside.log in
    let all = kept-bytes log c.self.inside.events c.self.invariant.kept in
    let at = c.start_from-start.ensures (batches_of c.self.inside.events c.self.inside.log) (rw (c.as_slice-starts.ensures.value, c.next_start-next.ensures) (tracked-starts c.self.inside.log c.self.inside.followers c.self.inside.events c.self.inside.starts.items c.self.inside.replicas c.self.inside.numbers c.self.invariant)) in
    let ends = c.taken_end-end.ensures (batches_of c.self.inside.events c.self.inside.log) c.args.from (rw (c.as_slice-starts.ensures.value, c.next_start-next.ensures) (tracked-starts c.self.inside.log c.self.inside.followers c.self.inside.events c.self.inside.starts.items c.self.inside.replicas c.self.inside.numbers c.self.invariant)) at in
    let within = read-within log c.self.inside.events c.self.invariant.kept c.args.from c.start_from-start.result c.args.upto c.args.limit c.taken_end-end.result (not c.args.force) (at ∙ all) ends in
    let low = within.0 in
    search rules

pub slice_bounds-result-end : goal.slice_bounds-result-end
slice_bounds-result-end c =
    let log = c.self.inside.log in
    let all = kept-bytes log c.self.inside.events c.self.invariant.kept in
    let at = c.start_from-start.ensures (batches_of c.self.inside.events c.self.inside.log) (rw (c.as_slice-starts.ensures.value, c.next_start-next.ensures) (tracked-starts c.self.inside.log c.self.inside.followers c.self.inside.events c.self.inside.starts.items c.self.inside.replicas c.self.inside.numbers c.self.invariant)) in
    let ends = c.taken_end-end.ensures (batches_of c.self.inside.events c.self.inside.log) c.args.from (rw (c.as_slice-starts.ensures.value, c.next_start-next.ensures) (tracked-starts c.self.inside.log c.self.inside.followers c.self.inside.events c.self.inside.starts.items c.self.inside.replicas c.self.inside.numbers c.self.invariant)) at in
    let within = read-within log c.self.inside.events c.self.invariant.kept c.args.from c.start_from-start.result c.args.upto c.args.limit c.taken_end-end.result (not c.args.force) (at ∙ all) ends in
    let low = within.0 in
    let high : c.taken_end-end.result ≤ length c.as_slice.result.now = omega (arith, within.1, ap length c.as_slice.ensures) in
    search rules

pub returns-clause-bytes : goal.returns-clause-bytes
returns-clause-bytes c =
    let log = c.self.inside.log in
    let all = kept-bytes log c.self.inside.events c.self.invariant.kept in
    let at = c.start_from-start.ensures (batches_of c.self.inside.events c.self.inside.log) (rw (c.as_slice-starts.ensures.value, c.next_start-next.ensures) (tracked-starts c.self.inside.log c.self.inside.followers c.self.inside.events c.self.inside.starts.items c.self.inside.replicas c.self.inside.numbers c.self.invariant)) in
    let ends = c.taken_end-end.ensures (batches_of c.self.inside.events c.self.inside.log) c.args.from (rw (c.as_slice-starts.ensures.value, c.next_start-next.ensures) (tracked-starts c.self.inside.log c.self.inside.followers c.self.inside.events c.self.inside.starts.items c.self.inside.replicas c.self.inside.numbers c.self.invariant)) at in
    ap (λ l. take (c.taken_end-end.result - c.start_from-start.result) (drop c.start_from-start.result l)) c.as_slice.ensures
    ∙ read-bytes log c.self.inside.events c.self.invariant.kept c.args.from c.start_from-start.result c.args.upto c.args.limit c.taken_end-end.result (not c.args.force) (at ∙ all) ends
    ∙ ap (λ (h : History). joined (taken c.args.limit (not c.args.force) (batches_past c.args.from (batches_upto c.args.upto (state_of h).batches)))) c.self.view_is
