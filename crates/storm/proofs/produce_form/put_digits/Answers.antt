use Rattle.std.proofs.Common.{◌∙◌, ◌≤◌, length, arith}
use Rattle.storm.proofs.Values.{value_over}
use Rattle.storm.proofs.produce_form.put_digits.Goals as goal

pub returns : goal.returns
returns c =
    let few : length c.as_bytes-digits.result.now ≤ 16 = omega (arith, c.format.ensures.short, c.as_bytes-digits.ensures.len) in
    value_over c.args.i c.copy_from_slice.new.self c.as_bytes-digits.result.now c.copy_from_slice-2.new.self c.copy_from_slice.ensures.after (c.as_bytes-digits.ensures.value ∙ c.format.ensures.text) c.copy_from_slice-2.ensures.after few
