use Rattle.std.proofs.Common.{◌∙◌, ap, arith}
use Rattle.kbatch.specs.Crc.{crc32c_of}
use Rattle.storm.proofs.Formed.{formed_size, over_size, written_over}
use Rattle.storm.proofs.produce_form.write_batch_over.Goals as goal

pub put_value-requires : goal.put_value-requires
put_value-requires c = formed_size c.args.batch.now c.requires.form

pub put_u32-requires : goal.put_u32-requires
put_u32-requires c = omega (arith, over_size c.args.i c.args.batch.now c.put_value.new.batch c.requires.place c.requires.form c.put_value.ensures)

pub returns : goal.returns
returns c =
    written_over c.args.i c.args.batch.now c.put_value.new.batch c.put_u32.new.frame c.crc32c-crc.result c.requires.place c.requires.form c.put_value.ensures (c.crc32c-crc.ensures ∙ ap crc32c_of c.split_at.ensures.back) c.put_u32.ensures
