use Rattle.std.proofs.Common.{◌≡◌, ◌*◌, ◌++◌, take, drop}
use Rattle.hex.specs.Hex.{encode_lower}
use Rattle.trace_file.proofs.digits.Digits.write.Given as goal

-- what is written so far, and the digits of the bytes that are left
abbrev pub invariant-bytes : goal.invariant-bytes
invariant-bytes l = take (2 * l.i) l.out ++ encode_lower (drop l.i l.fn.bytes) ≡ encode_lower l.fn.bytes
