use Rattle.std.proofs.Common.{◌≡◌, drop, fold, length}
use Rattle.kbatch.specs.Crc.{after_bit, all_ones, message_bits}
use Rattle.kbatch.proofs.crc.crc32c.Given as goal

abbrev pub invariant-loop-rest : goal.invariant-loop-rest
invariant-loop-rest l = fold after_bit l.remainder (message_bits l.rest) ≡ fold after_bit all_ones (message_bits l.bytes)

abbrev pub decreases-loop-rest : goal.decreases-loop-rest
decreases-loop-rest l = length l.rest

abbrev pub invariant-loop-byte : goal.invariant-loop-byte
invariant-loop-byte l = fold after_bit l.remainder (message_bits (drop l.byte-index l.byte-items)) ≡ fold after_bit all_ones (message_bits l.bytes)
