use Rattle.std.proofs.Common.{◌≡◌, ◌∙◌, ℤ, pos, [], ◌∷◌, ap, drop, arith, rules}
use Rattle.std.specs.Int.{w16, w32}
use Rattle.std.proofs.lemmas.Int.{to_z-of_z, to_z_pos}
use Rattle.kbatch.specs.Crc.{crc32c_of}
use Rattle.kbatch.specs.Written.{written_with}
use Rattle.kbytes.specs.Field.{field, Int16, Int32}
use Rattle.storm.specs.Formed.{over_at}
use Rattle.storm.specs.Places.{partition_of}
use Rattle.storm.specs.Requests.{record_of, value_of}
use Rattle.storm.proofs.Formed.{batch_kept, batch_replaced}
use Rattle.storm.proofs.Octets.{value_long}
use Rattle.storm.proofs.produce_form.write_over.Goals as goal

pub write_batch_over-requires-clause-form : goal.write_batch_over-requires-clause-form
write_batch_over-requires-clause-form c =
    let i = c.args.i in
    let old = c.args.frame.now in
    let n1 = c.put_i32.new.frame in
    let n2 = c.put_i16.new.frame in
    let n3 = c.put_i32-2.new.frame in
    let n4 = c.put_i32-3.new.frame in
    let e1 : n1 ≡ over_at 8 4 (field (Int32 (pos i))) old = c.put_i32.ensures ∙ ap (λ (z : ℤ). over_at 8 4 (field (Int32 z)) old) (to_z_pos w32 i (omega (arith, c.requires.place))) in
    let e2 : n2 ≡ over_at 16 2 (field (Int16 c.args.acks)) n1 = c.put_i16.ensures ∙ ap (λ (z : ℤ). over_at 16 2 (field (Int16 z)) n1) (to_z-of_z w16 c.args.acks (search rules)) in
    let e3 : n3 ≡ over_at 18 4 (field (Int32 (pos c.args.timeout))) n2 = c.put_i32-2.ensures ∙ ap (λ (z : ℤ). over_at 18 4 (field (Int32 z)) n2) (to_z_pos w32 c.args.timeout c.requires.timeout) in
    let e4 : n4 ≡ over_at 37 4 (field (Int32 (pos (partition_of i)))) n3 =
    c.put_i32-3.ensures ∙ ap (λ (z : ℤ). over_at 37 4 (field (Int32 z)) n3) (to_z-of_z w32 c.partition_of.result (search rules) ∙ c.partition_of.ensures) in
    batch_kept i (partition_of i) c.args.acks c.args.timeout old n1 n2 n3 n4 c.requires.form e1 e2 e3 e4

pub returns : goal.returns
returns c =
    let i = c.args.i in
    let old = c.args.frame.now in
    let n1 = c.put_i32.new.frame in
    let n2 = c.put_i16.new.frame in
    let n3 = c.put_i32-2.new.frame in
    let n4 = c.put_i32-3.new.frame in
    let e1 : n1 ≡ over_at 8 4 (field (Int32 (pos i))) old = c.put_i32.ensures ∙ ap (λ (z : ℤ). over_at 8 4 (field (Int32 z)) old) (to_z_pos w32 i (omega (arith, c.requires.place))) in
    let e2 : n2 ≡ over_at 16 2 (field (Int16 c.args.acks)) n1 = c.put_i16.ensures ∙ ap (λ (z : ℤ). over_at 16 2 (field (Int16 z)) n1) (to_z-of_z w16 c.args.acks (search rules)) in
    let e3 : n3 ≡ over_at 18 4 (field (Int32 (pos c.args.timeout))) n2 = c.put_i32-2.ensures ∙ ap (λ (z : ℤ). over_at 18 4 (field (Int32 z)) n2) (to_z_pos w32 c.args.timeout c.requires.timeout) in
    let e4 : n4 ≡ over_at 37 4 (field (Int32 (pos (partition_of i)))) n3 =
    c.put_i32-3.ensures ∙ ap (λ (z : ℤ). over_at 37 4 (field (Int32 z)) n3) (to_z-of_z w32 c.partition_of.result (search rules) ∙ c.partition_of.ensures) in
    batch_replaced i (partition_of i) c.args.acks c.args.timeout old n1 n2 n3 n4 c.requires.form e1 e2 e3 e4 (crc32c_of (drop 21 (written_with 0 (record_of i ∷ [])))) (value_of i) c.write_batch_over.new.batch
    (value_long i c.requires.place) c.write_batch_over.ensures
