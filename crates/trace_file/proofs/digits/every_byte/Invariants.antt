use Rattle.std.proofs.Common.{◌≡◌, ◌<◌, ℕ, length, slice_index}
use Rattle.trace_file.specs.declared.digits.TheConstants.{BYTES}
use Rattle.trace_file.proofs.digits.every_byte.Given as goal

abbrev pub invariant-loop-byte : goal.invariant-loop-byte
invariant-loop-byte l = record {
  all : length l.bytes ≡ BYTES;
  each : (k : ℕ) → k < l.byte → slice_index l.bytes k ≡ k;
}
