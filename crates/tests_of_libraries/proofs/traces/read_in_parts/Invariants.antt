use Rattle.std.proofs.Common.{Bool, List, ℕ}
use Rattle.trace_file.specs.TextRead.{HasTaken}
use Rattle.tests_of_libraries.proofs.traces.read_in_parts.Given as goal

abbrev pub invariant-loop-part : goal.invariant-loop-part
invariant-loop-part g l = record { only_topics : Bool; text : List ℕ; taken : HasTaken only_topics text l.reader }
