use Rattle.std.proofs.Common.{◌≡◌, ℕ, List, ◌++◌}
use Rattle.std.specs.Slice.Iter.{chunks_rest, chunks_size}
use Rattle.hex.specs.Hex.{encode_lower}
use Rattle.trace_file.specs.declared.reply_line.TheConstants.{AT_A_TIME}
use Rattle.trace_file.proofs.reply_line.put_hex.Given as goal

-- the digits of the bytes before those that are left
abbrev pub invariant-loop-part : goal.invariant-loop-part
invariant-loop-part l =
    goal.iterator-loop-part.can_next l.part-iterator
    × goal.iterator-loop-part.is_finite l.part-iterator
    × (chunks_size l.part-iterator ≡ AT_A_TIME)
    × (done : List ℕ) × (l.out ≡ l.initial.out ++ encode_lower done) × (done ++ chunks_rest l.part-iterator ≡ l.bytes)
