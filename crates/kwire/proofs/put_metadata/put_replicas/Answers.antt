use Rattle.std.proofs.Common.{◌+◌, ◌<◌, ◌^◌, ℤ, pos, Some, ◌∷◌, ◌++◌, map, sym, ap, subst, ◌∙◌, ℕ, List, arith}
use Rattle.std.specs.Int.{w32}
use Rattle.std.proofs.lemmas.Int.{to_z_pos}
use Rattle.std.specs.List.{range_with_len}
use Rattle.kbytes.specs.Field.{Field, field, Int32, Array}
use Rattle.kwire.proofs.Spelled.{Put, then_field}
use Rattle.kwire.proofs.Ranges.{map_next}
use Rattle.kwire.proofs.put_metadata.put_replicas.Goals as goal

abbrev replica_field : ℕ → Field
replica_field replica = Int32 (pos replica)

pub loop-replica-preserved : goal.loop-replica-preserved
loop-replica-preserved c =
    let n = c.loop-replica.replica in
    let end : n < c.args.followers + 1 = c.loop-replica-test.true in
    let few : c.args.followers + 1 < 2 ^ 31 = c.requires in
    let small : n < 2 ^ 31 = omega (arith, end, few) in
    let so_far = Array (Some (c.args.followers + 1)) ∷ map replica_field (range_with_len 0 n) in
    subst (λ (fs : List Field). Put c.args.out.now c.put_i32.new.out (Array (Some (c.args.followers + 1)) ∷ fs)) (sym (map_next replica_field n))
    (then_field c.args.out.now c.loop-replica.out c.put_i32.new.out so_far (Int32 (pos n)) c.loop-replica.invariant (c.in_ok-put_i32.ensures.ok ∙ ap (λ (z : ℤ). c.loop-replica.out ++ field (Int32 z)) (to_z_pos w32 n small)))
