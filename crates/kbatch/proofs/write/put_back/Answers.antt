use Rattle.std.proofs.Common.{◌-◌, ◌++◌, ap, ◌∙◌, rules, arith}
use Rattle.std.specs.Prelude.{FitsSigned}
use Rattle.std.specs.Int.{w32, w64}
use Rattle.std.proofs.lemmas.Int.{to_z-of_z, to_z_pos}
use Rattle.std.proofs.lemmas.Result.{on_ok_weaker}
use Rattle.kbytes.specs.Field.{field, Int32, Int64}
use Rattle.kbatch.proofs.Puts.{back_put}
use Rattle.kbatch.proofs.write.put_back.Goals as goal

pub returns : goal.returns
returns c =
    let latest : FitsSigned w64 c.args.latest = search rules in
    let e2 = c.in_ok-put_i32.ensures.ok ∙ ap (λ z. c.put_i16.new.out ++ field (Int32 z)) (to_z_pos w32 (c.args.count - 1) (omega arith)) in
    let e4 = c.in_ok-put_i64-2.ensures.ok ∙ ap (λ z. c.put_i64.new.out ++ field (Int64 z)) (to_z-of_z w64 c.args.latest latest) in
    on_ok_weaker c.put_i32-3.result
    (λ e. back_put c.args.count c.args.latest c.args.out.now c.put_i16.new.out c.put_i32.new.out c.put_i64.new.out c.put_i64-2.new.out c.put_i64-3.new.out c.put_i16-2.new.out c.put_i32-2.new.out c.put_i32-3.new.out c.in_ok-put_i16.ensures.ok e2 c.in_ok-put_i64.ensures.ok e4 c.in_ok-put_i64-3.ensures.ok c.in_ok-put_i16-2.ensures.ok c.in_ok-put_i32-2.ensures.ok (e ∙ ap (λ z. c.put_i32-2.new.out ++ field (Int32 z)) (to_z_pos w32 c.args.count c.requires.fits)))
    c.put_i32-3.ensures.ok
