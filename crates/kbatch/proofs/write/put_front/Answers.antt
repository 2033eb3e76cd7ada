use Rattle.std.proofs.Common.{◌+◌, ◌++◌, ap, ◌∙◌, arith}
use Rattle.std.specs.Int.{w32}
use Rattle.std.proofs.lemmas.Int.{to_z_pos}
use Rattle.std.proofs.lemmas.Result.{on_ok_weaker}
use Rattle.kbytes.specs.Field.{field, Int32}
use Rattle.kbatch.proofs.Puts.{front_put}
use Rattle.kbatch.proofs.write.put_front.Goals as goal

pub returns : goal.returns
returns c =
    let e2 = c.in_ok-put_i32.ensures.ok ∙ ap (λ z. c.put_i64.new.out ++ field (Int32 z)) (to_z_pos w32 (49 + c.args.size) (omega arith)) in
    on_ok_weaker c.put_u32.result
    (λ e. front_put c.args.size c.args.out.now c.put_i64.new.out c.put_i32.new.out c.put_i32-2.new.out c.put_i8.new.out c.put_u32.new.out c.in_ok-put_i64.ensures.ok e2 c.in_ok-put_i32-2.ensures.ok c.in_ok-put_i8.ensures.ok e)
    c.put_u32.ensures.ok
