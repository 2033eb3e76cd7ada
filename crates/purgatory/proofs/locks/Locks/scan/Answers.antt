use Rattle.std.proofs.Common.{◌∙◌, ◌%◌, ◌-◌, List, ap, arith, subst, sym}
use Rattle.room_core.specs.declared.shape.Shape.{Shape}
use Rattle.purgatory.specs.Rooms.{AreNamed, LockView}
use Rattle.purgatory.proofs.Doors.{shard_belongs, shard_named, shard_of, shard_turned}
use Rattle.purgatory.proofs.locks.Locks.scan.Goals as goal

pub scan_shard-requires-clause-key : goal.scan_shard-requires-clause-key
scan_shard-requires-clause-key g c =
    let locks = c.self.inside in
    let keys = c.keys.inside in
    let same = c.keys.view_is ∙ c.requires.keys ∙ sym c.self.view_is in
    let named = subst (λ (xs : List LockView). AreNamed c.args.table.now xs) (sym c.self.view_is) c.requires.room.named in
    shard_belongs c.args.table.now locks.shards.items locks.clock keys.shards.items keys.clock same c.self.invariant named c.keys.invariant (c.args.gauge % 16) c.index.result.now c.index_mut.result.now
    (omega arith) c.index.ensures c.index_mut.ensures.value

pub scan_shard-requires-clause-name : goal.scan_shard-requires-clause-name
scan_shard-requires-clause-name g c =
    let locks = c.self.inside in
    let named = subst (λ (xs : List LockView). AreNamed c.args.table.now xs) (sym c.self.view_is) c.requires.room.named in
    shard_named c.args.table.now locks.shards.items locks.clock c.self.invariant named (c.args.gauge % 16) c.index.result.now (omega arith) c.index.ensures

pub scan_shard-requires-clause-gauge : goal.scan_shard-requires-clause-gauge
scan_shard-requires-clause-gauge g c =
    shard_of c.args.table.now.shape c.args.gauge c.requires.room.scanners c.requires.gauge
    (λ e. c.if-gauge-shape.false (e ∙ sym (ap (λ (s : Shape). s.gauges - 1) c.requires.shape)))

pub returns : goal.returns
returns g c =
    let locks = c.self.inside in
    let keys = c.keys.inside in
    let same = c.keys.view_is ∙ c.requires.keys ∙ sym c.self.view_is in
    let named = subst (λ (xs : List LockView). AreNamed c.args.table.now xs) (sym c.self.view_is) c.requires.room.named in
    (shard_turned c.args.table.now locks.shards.items locks.clock keys.shards.items keys.clock same c.self.invariant named c.keys.invariant (c.args.gauge % 16) c.index.result.now c.index_mut.result.now c.scan_shard.new.key
    (omega arith) c.index.ensures c.index_mut.ensures.value c.scan_shard.ensures).0 ∙ c.keys.view_is
