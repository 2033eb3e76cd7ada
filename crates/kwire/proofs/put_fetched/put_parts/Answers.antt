use Rattle.std.proofs.Common.{ℤ, sym, subst}
use Rattle.std.specs.Int.{w8, w16}
use mir.Val.{of_z, to_z}
use Rattle.std.proofs.lemmas.Int.{to_z-of_z}
use Rattle.std.specs.List.{flat_map}
use Rattle.kwire.specs.Spelling.{fetched_part_fields}
use Rattle.kwire.specs.IsSpellable.{AreInRange}
use Rattle.kwire.proofs.Spelled.{Put, put_start, put_item, put_all, in_range_item}
use Rattle.kwire.proofs.put_fetched.put_parts.Goals as goal

-- the version and the level as they are handed on
abbrev level : ℤ → ℤ
level z = to_z w8 (of_z w8 z)

abbrev version_of : ℤ → ℤ
version_of z = to_z w16 (of_z w16 z)

pub put_part-requires : goal.put_part-requires
put_part-requires c =
    let whole = subst (λ (v : ℤ). AreInRange (flat_map (fetched_part_fields v c.args.isolation) c.args.parts.now)) (sym (to_z-of_z w16 c.args.version c.ranges.version)) c.requires in
    let fits = subst (λ (z : ℤ). AreInRange (flat_map (fetched_part_fields (version_of c.args.version) z) c.args.parts.now)) (sym (to_z-of_z w8 c.args.isolation c.ranges.isolation)) whole in
    in_range_item (fetched_part_fields (version_of c.args.version) (level c.args.isolation)) c.args.parts.now c.loop-part.part-index c.part-item.result c.loop-part-test.true c.part-item.is fits

pub loop-part-init : goal.loop-part-init
loop-part-init c = put_start c.args.out.now

pub loop-part-preserved : goal.loop-part-preserved
loop-part-preserved c =
    put_item (fetched_part_fields (version_of c.args.version) (level c.args.isolation)) c.args.out.now c.loop-part.out c.put_part.new.out c.args.parts.now c.loop-part.part-index c.part-item.result c.loop-part-test.true c.part-item.is c.loop-part.invariant c.in_ok-put_part.ensures

pub returns : goal.returns
returns c =
    subst (λ (v : ℤ). Put c.args.out.now c.loop-part.out (flat_map (fetched_part_fields v c.args.isolation) c.args.parts.now)) (to_z-of_z w16 c.args.version c.ranges.version)
    (subst (λ (z : ℤ). Put c.args.out.now c.loop-part.out (flat_map (fetched_part_fields (version_of c.args.version) z) c.args.parts.now)) (to_z-of_z w8 c.args.isolation c.ranges.isolation)
    (put_all (fetched_part_fields (version_of c.args.version) (level c.args.isolation)) c.args.out.now c.loop-part.out c.args.parts.now c.loop-part.part-index c.loop-part-test.false c.loop-part.invariant))
