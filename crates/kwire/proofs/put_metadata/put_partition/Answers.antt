use Rattle.std.proofs.Common.{ℤ, pos, [], ◌∷◌, ◌++◌, ap, ◌∙◌}
use Rattle.std.specs.Int.{w32}
use Rattle.std.proofs.lemmas.Int.{to_z_pos}
use Rattle.kbytes.specs.Field.{field, Int16, Int32}
use Rattle.kwire.specs.Spelling.{replica_fields}
use Rattle.kwire.proofs.Spelled.{put_start, put_on, then_field, on_ok}
use Rattle.kwire.proofs.put_metadata.put_partition.Goals as goal

pub returns : goal.returns
returns c =
    let old = c.args.out.now in
    let o1 = c.put_i16.new.out in
    let o2 = c.put_i32.new.out in
    let o3 = c.put_i32-2.new.out in
    let o4 = c.put_replicas.new.out in
    let o5 = c.put_replicas-2.new.out in
    let replicas = replica_fields c.args.followers in
    let fs1 = Int16 (pos 0) ∷ [] in
    let fs2 = Int16 (pos 0) ∷ Int32 (pos c.args.index) ∷ [] in
    let fs3 = Int16 (pos 0) ∷ Int32 (pos c.args.index) ∷ Int32 (pos 0) ∷ [] in
    let p1 = then_field old old o1 [] (Int16 (pos 0)) (put_start old) c.in_ok-put_i16.ensures.ok in
    let p2 = then_field old o1 o2 fs1 (Int32 (pos c.args.index)) p1 (c.in_ok-put_i32.ensures.ok ∙ ap (λ (z : ℤ). o1 ++ field (Int32 z)) (to_z_pos w32 c.args.index c.requires.index)) in
    let p3 = then_field old o2 o3 fs2 (Int32 (pos 0)) p2 c.in_ok-put_i32-2.ensures.ok in
    let p4 = put_on old o3 o4 fs3 replicas p3 c.in_ok-put_replicas.ensures in
    on_ok c.put_replicas-2.result (λ is. put_on old o4 o5 (fs3 ++ replicas) replicas p4 is) c.put_replicas-2.ensures
