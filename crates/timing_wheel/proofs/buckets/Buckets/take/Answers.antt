use Rattle.std.proofs.Common.{ap, sym, arith, ◌≡◌, length}
use Rattle.std.proofs.lemmas.List.{get_or_read}
use Rattle.timing_wheel.proofs.Rings.{IsRings-take}
use Rattle.timing_wheel.proofs.buckets.Buckets.take.Goals as goal

pub invariant_of-self : goal.invariant_of-self
invariant_of-self c =
    let b = c.self.inside in
    let same : b.homes.items ≡ c.args.self.now = c.self.view_is in
    let long = ap length same in
    let next_long = c.self.invariant.next_length in
    let prev_long = c.self.invariant.prev_length in
    let before = get_or_read b.prev.items c.args.id _ (omega arith) c.index-before.ensures 0 in
    let after = get_or_read b.next.items c.args.id _ (omega arith) c.index-after.ensures 0 in
    IsRings-take b.homes.items b.next.items b.prev.items c.args.id c.index-before.result.now c.index-after.result.now c.self.invariant (omega arith) (rw same c.requires.listed) (sym before) (sym after)
