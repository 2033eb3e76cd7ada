use Rattle.std.proofs.Common.{◌≡◌, ◌<◌, ◌*◌, ℕ, length, slice_index}
use Rattle.trace_file.specs.declared.digits.TheConstants.{BYTES}
use Rattle.trace_file.specs.DigitTables.{value_or_none}
use Rattle.trace_file.proofs.digit_values.DigitValues.make.Given as goal

abbrev pub invariant-loop-digit : goal.invariant-loop-digit
invariant-loop-digit l = record {
  all_high : length l.high ≡ BYTES;
  all_low : length l.low ≡ BYTES;
  each_high : (k : ℕ) → k < l.digit → slice_index l.high k ≡ value_or_none k * 16;
  each_low : (k : ℕ) → k < l.digit → slice_index l.low k ≡ value_or_none k;
}
