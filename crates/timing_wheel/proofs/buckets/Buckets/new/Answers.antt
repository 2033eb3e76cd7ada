use Rattle.std.proofs.Common.{rules, arith, ◌≡◌, length, replicate, None}
use Rattle.std.proofs.lemmas.List.{get_or-replicate}
use Rattle.timing_wheel.proofs.Rings.{IsRings-new}
use Rattle.timing_wheel.proofs.buckets.Buckets.new.Goals as goal

pub invariant_of-result : goal.invariant_of-result
invariant_of-result c =
    let homes : c.in_ok-homes.homes.items ≡ replicate c.args.ids None = search rules in
    let n : length c.in_ok-homes.homes.items ≡ c.args.ids = search rules in
    IsRings-new c.in_ok-homes.homes.items c.in_ok-next.next.items c.in_ok-prev.prev.items (λ k l. rw homes (get_or-replicate c.args.ids k None None (omega arith))) (omega arith) (search rules) (search rules) (λ k l. c.in_ok-next.ensures.each k (omega arith)) (λ k l. c.in_ok-prev.ensures.each k (omega arith))
