use Rattle.std.proofs.Common.{arith, ◌+◌, ◌≡◌, length, get_or}
use Rattle.std.proofs.lemmas.List.{get_or_read}
use Rattle.timing_wheel.proofs.Rings.{home_of_first, none_in_closed}
use Rattle.timing_wheel.proofs.buckets.Buckets.first.Goals as goal

pub returns-then-node-ids-clause-some : goal.returns-then-node-ids-clause-some
returns-then-node-ids-clause-some c =
    let b = c.self.inside in
    let same : b.homes.items ≡ c.args.self.now = c.self.view_is in
    let next_long = c.self.invariant.next_length in
    let is_len : c.len-ids.result ≡ length b.homes.items = omega arith in
    let read = get_or_read b.next.items (c.len-ids.result + c.args.bucket) _ (omega arith) c.index-node.ensures 0 in
    let node : c.index-node.result.now ≡ get_or b.next.items (length b.homes.items + c.args.bucket) 0 = rw is_len at read in
    rw (← same, node) (home_of_first b.homes.items b.next.items b.prev.items c.args.bucket c.self.invariant c.requires (omega arith))

pub returns-else-node-ids-clause-none : goal.returns-else-node-ids-clause-none
returns-else-node-ids-clause-none c =
    let b = c.self.inside in
    let same : b.homes.items ≡ c.args.self.now = c.self.view_is in
    let next_long = c.self.invariant.next_length in
    let is_len : c.len-ids.result ≡ length b.homes.items = omega arith in
    let read = get_or_read b.next.items (c.len-ids.result + c.args.bucket) _ (omega arith) c.index-node.ensures 0 in
    let node : c.index-node.result.now ≡ get_or b.next.items (length b.homes.items + c.args.bucket) 0 = rw is_len at read in
    rw (← same) (none_in_closed b.homes.items b.next.items b.prev.items c.self.invariant c.args.bucket c.requires (omega arith))
