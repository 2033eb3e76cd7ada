use Rattle.std.proofs.Common.{Ok, Err, ◌∙◌}
use Rattle.trace_file.proofs.DigitTables.{value_read}
use Rattle.trace_file.proofs.digit_values.value_of.Goals as goal

pub returns-in-Ok : goal.returns-in-Ok
returns-in-Ok c = c.from.ensures ∙ value_read c.args.digit (Ok c.in-Ok.field-0) c.decode_to_slice.new.out c.in-Ok.ensures.value

pub returns-in-Err : goal.returns-in-Err
returns-in-Err c = value_read c.args.digit (Err c.in-Err.field-0) c.decode_to_slice.new.out c.in-Err.ensures.value
