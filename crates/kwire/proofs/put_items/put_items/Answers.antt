use Rattle.std.proofs.Common.{ℤ, sym, subst}
use Rattle.std.specs.Int.{w16}
use mir.Val.{of_z, to_z}
use Rattle.std.proofs.lemmas.Int.{to_z-of_z}
use Rattle.std.specs.List.{flat_map}
use Rattle.kwire.specs.IsSpellable.{AreInRange}
use Rattle.kwire.proofs.Spelled.{Put, put_start, put_item, put_all, in_range_item}
use Rattle.kwire.proofs.put_items.put_items.Goals as goal

-- the version as it is handed on
abbrev handed : ℤ → ℤ
handed z = to_z w16 (of_z w16 z)

pub put-requires : goal.put-requires
put-requires g c =
    let fits = subst (λ (v : ℤ). AreInRange (flat_map (g.T.Written.written v) c.args.items.now)) (sym (to_z-of_z w16 c.args.version c.ranges.version)) c.requires in
    in_range_item (g.T.Written.written (handed c.args.version)) c.args.items.now c.loop-item.item-index c.item-item.result c.loop-item-test.true c.item-item.is fits

pub loop-item-init : goal.loop-item-init
loop-item-init g c = put_start c.args.out.now

pub loop-item-preserved : goal.loop-item-preserved
loop-item-preserved g c =
    put_item (g.T.Written.written (handed c.args.version)) c.args.out.now c.loop-item.out c.put.new.out c.args.items.now c.loop-item.item-index c.item-item.result c.loop-item-test.true c.item-item.is c.loop-item.invariant c.in_ok-put.ensures

pub returns : goal.returns
returns g c =
    subst (λ (v : ℤ). Put c.args.out.now c.loop-item.out (flat_map (g.T.Written.written v) c.args.items.now)) (to_z-of_z w16 c.args.version c.ranges.version)
    (put_all (g.T.Written.written (handed c.args.version)) c.args.out.now c.loop-item.out c.args.items.now c.loop-item.item-index c.loop-item-test.false c.loop-item.invariant)
