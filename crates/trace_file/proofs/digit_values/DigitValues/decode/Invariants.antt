use Rattle.std.proofs.Common.{◌≡◌, ◌<◌, ◌≤◌, ◌*◌, take, drop, Err}
use Rattle.hex.specs.Hex.{decode_pairs}
use Rattle.hex.specs.declared.error.FromHexError.{FromHexError}
use Rattle.hex.proofs.Pairs.{prepend}
use Rattle.trace_file.proofs.digit_values.DigitValues.decode.Given as goal

-- what the digits are, from the bytes so far and the digits that are left, or that one is no digit
abbrev pub invariant-bytes : goal.invariant-bytes
invariant-bytes l = record {
  good : l.seen < 256 → decode_pairs 0 l.digits ≡ prepend (take l.i l.out) (decode_pairs (2 * l.i) (drop (2 * l.i) l.digits));
  bad : 256 ≤ l.seen → (e : FromHexError) × (decode_pairs 0 l.digits ≡ Err e);
}
