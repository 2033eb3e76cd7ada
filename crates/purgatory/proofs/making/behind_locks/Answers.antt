use Rattle.std.proofs.Common.{◌∙◌, arith, map, subst}
use Rattle.std.proofs.lemmas.List.{length-map}
use Rattle.purgatory.specs.Making.{AreFrom, IsFreshScanner}
use Rattle.purgatory.specs.Turning.{clock_name, lock_view, shard_name}
use Rattle.purgatory.proofs.Made.{from_pop}
use Rattle.purgatory.proofs.Rings.{fresh_keys, names_so, popped_len, sixteen_so}
use Rattle.purgatory.proofs.making.behind_locks.Goals as goal

pub shard_locks-requires-clause-scanners : goal.shard_locks-requires-clause-scanners
shard_locks-requires-clause-scanners c =
    let items = c.in-Some.ensures.items in
    let last = c.in-Some.last in
    let all = from_pop (IsFreshScanner c.args.shape) 0 c.pop.new.self last (subst (AreFrom (IsFreshScanner c.args.shape) 0) items c.requires.scanners.1) in
    let count = popped_len c.args.scanners c.pop.new.self last items in
    let size = c.requires.scanners.0 in
    (omega (arith, count, size), all.0)

pub make-requires-clause-shape : goal.make-requires-clause-shape
make-requires-clause-shape c =
    let all = from_pop (IsFreshScanner c.args.shape) 0 c.pop.new.self c.in-Some.last (subst (AreFrom (IsFreshScanner c.args.shape) 0) c.in-Some.ensures.items c.requires.scanners.1) in
    (all.1.shape_is, c.requires.shape.0, c.requires.shape.1)

pub make-requires-clause-number : goal.make-requires-clause-number
make-requires-clause-number c =
    let items = c.in-Some.ensures.items in
    let all = from_pop (IsFreshScanner c.args.shape) 0 c.pop.new.self c.in-Some.last (subst (AreFrom (IsFreshScanner c.args.shape) 0) items c.requires.scanners.1) in
    let number = all.1.number in
    let count = popped_len c.args.scanners c.pop.new.self c.in-Some.last items in
    let size = c.requires.scanners.0 in
    omega (arith, number, count, size)

pub make-requires-clause-fresh : goal.make-requires-clause-fresh
make-requires-clause-fresh c =
    let all = from_pop (IsFreshScanner c.args.shape) 0 c.pop.new.self c.in-Some.last (subst (AreFrom (IsFreshScanner c.args.shape) 0) c.in-Some.ensures.items c.requires.scanners.1) in
    all.1.fresh

pub key_rings-requires-clause-rows : goal.key_rings-requires-clause-rows
key_rings-requires-clause-rows c =
    let items = c.in-Some.ensures.items in
    let count = popped_len c.args.scanners c.pop.new.self c.in-Some.last items in
    let size = c.requires.scanners.0 in
    let shards = c.in_ok-shards.shards.items in
    let sixteen =
    sixteen_so shards c.in_ok-clock.clock c.args.scanners c.pop.new.self c.in-Some.last c.in_ok-desk.desk items c.in_ok-shards.ensures.names c.in_ok-clock.ensures.lock.0 c.in_ok-desk.ensures (omega (arith, count, size)) in
    (map (lock_view shard_name) shards, length-map shards (lock_view shard_name) ∙ sixteen, c.in_ok-shards.ensures.rows.1)

pub key_rings-requires-clause-passes : goal.key_rings-requires-clause-passes
key_rings-requires-clause-passes c = (lock_view clock_name c.in_ok-clock.clock, fresh_keys clock_name c.in_ok-clock.clock _ c.in_ok-clock.passes c.in_ok-clock.ensures.lock.0 c.in_ok-clock.ensures.passes.1)

pub invariant_of-result : goal.invariant_of-result
invariant_of-result c =
    let items = c.in-Some.ensures.items in
    let count = popped_len c.args.scanners c.pop.new.self c.in-Some.last items in
    let size = c.requires.scanners.0 in
    sixteen_so c.in_ok-shards.shards.items c.in_ok-clock.clock c.args.scanners c.pop.new.self c.in-Some.last c.in_ok-desk.desk items c.in_ok-shards.ensures.names c.in_ok-clock.ensures.lock.0 c.in_ok-desk.ensures
    (omega (arith, count, size))

pub returns-clause-names : goal.returns-clause-names
returns-clause-names c =
    names_so c.in_ok-shards.shards.items c.in_ok-clock.clock c.args.scanners c.pop.new.self c.in-Some.last c.in_ok-desk.desk c.in-Some.ensures.items c.in_ok-shards.ensures.names c.in_ok-clock.ensures.lock.0 c.in_ok-desk.ensures

pub returns-clause-keys : goal.returns-clause-keys
returns-clause-keys c = (
  c.in_ok-keys.ensures.len ∙ c.in_ok-shards.ensures.rows.0,
  c.in_ok-keys.ensures.rings (map (lock_view shard_name) c.in_ok-shards.shards.items) (lock_view clock_name c.in_ok-clock.clock) c.in_ok-shards.ensures.rows.1
      (fresh_keys clock_name c.in_ok-clock.clock _ c.in_ok-clock.passes c.in_ok-clock.ensures.lock.0 c.in_ok-clock.ensures.passes.1),
)
