use Rattle.std.proofs.Common.{ap, sym, arith, ◌+◌, ◌≡◌, length}
use Rattle.std.proofs.lemmas.List.{get_or_read}
use Rattle.timing_wheel.proofs.Rings.{IsRings-put}
use Rattle.timing_wheel.proofs.buckets.Buckets.put.Goals as goal

pub invariant_of-self : goal.invariant_of-self
invariant_of-self c =
    let b = c.self.inside in
    let same : b.homes.items ≡ c.args.self.now = c.self.view_is in
    let long = ap length same in
    let prev_long = c.self.invariant.prev_length in
    let read = get_or_read b.prev.items (c.len.result + c.args.bucket) _ (omega arith) c.index-last.ensures 0 in
    IsRings-put b.homes.items b.next.items b.prev.items c.args.id c.args.bucket (c.len.result + c.args.bucket) c.index-last.result.now c.self.invariant (omega arith) c.requires.bucket (rw same c.requires.free) (omega arith) (sym read)
