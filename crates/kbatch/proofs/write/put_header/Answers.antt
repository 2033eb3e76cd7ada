use Rattle.std.proofs.Common.{◌++◌, Some, length, ap, ◌∙◌, arith}
use Rattle.std.proofs.lemmas.Result.{on_ok_weaker}
use Rattle.kbatch.specs.Record.{sized}
use Rattle.kbatch.proofs.Puts.{key_short, value_short, header_put}
use Rattle.kbatch.proofs.write.put_header.Goals as goal

pub put_sized-requires : goal.put_sized-requires
put_sized-requires c = omega (arith, key_short c.args.header.now c.requires, ap length c.as_slice.ensures)

pub put_nullable-requires : goal.put_nullable-requires
put_nullable-requires c = value_short c.args.header.now c.requires

pub returns : goal.returns
returns c =
    let key = c.in_ok-put_sized.ensures ∙ ap (λ b. c.args.out.now ++ sized (Some b)) c.as_slice.ensures in
    on_ok_weaker c.put_nullable.result (λ e. header_put c.args.out.now c.put_sized.new.out c.put_nullable.new.out c.args.header.now key e) c.put_nullable.ensures
