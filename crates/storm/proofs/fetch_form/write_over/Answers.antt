use Rattle.std.proofs.Common.{◌≡◌, ◌∙◌, ℤ, pos, ap, arith, rules}
use Rattle.std.specs.Int.{w32, w64}
use Rattle.std.proofs.lemmas.Int.{to_z-of_z, to_z_pos}
use Rattle.kbytes.specs.Field.{field, Int32, Int64}
use Rattle.storm.specs.Formed.{over_at}
use Rattle.storm.specs.Places.{partition_of}
use Rattle.storm.proofs.Formed.{fetched}
use Rattle.storm.proofs.fetch_form.write_over.Goals as goal

pub returns : goal.returns
returns c =
    let i = c.args.i in
    let wish = c.args.wish in
    let old = c.args.frame.now in
    let n1 = c.put_i32.new.frame in
    let n2 = c.put_i32-2.new.frame in
    let n3 = c.put_i32-3.new.frame in
    let n4 = c.put_i32-4.new.frame in
    let n5 = c.put_i32-5.new.frame in
    let e1 : n1 ≡ over_at 8 4 (field (Int32 (pos i))) old = c.put_i32.ensures ∙ ap (λ (z : ℤ). over_at 8 4 (field (Int32 z)) old) (to_z_pos w32 i (omega (arith, c.requires.place))) in
    let e2 : n2 ≡ over_at 14 4 (field (Int32 wish.replica)) n1 = c.put_i32-2.ensures ∙ ap (λ (z : ℤ). over_at 14 4 (field (Int32 z)) n1) (to_z-of_z w32 wish.replica (search rules)) in
    let e3 : n3 ≡ over_at 18 4 (field (Int32 (pos wish.wait))) n2 = c.put_i32-3.ensures ∙ ap (λ (z : ℤ). over_at 18 4 (field (Int32 z)) n2) (to_z_pos w32 wish.wait c.requires.wait) in
    let e4 : n4 ≡ over_at 22 4 (field (Int32 (pos wish.least))) n3 = c.put_i32-4.ensures ∙ ap (λ (z : ℤ). over_at 22 4 (field (Int32 z)) n3) (to_z_pos w32 wish.least c.requires.least) in
    let e5 : n5 ≡ over_at 46 4 (field (Int32 (pos (partition_of i)))) n4 = c.put_i32-5.ensures ∙ ap (λ (z : ℤ). over_at 46 4 (field (Int32 z)) n4) (to_z-of_z w32 c.partition_of.result (search rules) ∙ c.partition_of.ensures) in
    let e6 : c.put_i64.new.frame ≡ over_at 50 8 (field (Int64 (pos wish.offset))) n5 = c.put_i64.ensures ∙ ap (λ (z : ℤ). over_at 50 8 (field (Int64 z)) n5) (to_z-of_z w64 c.from.result (search rules) ∙ c.from.ensures) in
    fetched i (partition_of i) wish.replica wish.wait wish.least wish.offset old n1 n2 n3 n4 n5 c.put_i64.new.frame c.requires.form e1 e2 e3 e4 e5 e6
