use Rattle.std.proofs.Common.{◌≡◌, ◌++◌, take}
use Rattle.std.specs.List.{flat_map}
use Rattle.audit.specs.Printed.{session_line}
use Rattle.audit.proofs.summary.put_passes.Given as goal

abbrev pub invariant-loop-transcripts : goal.invariant-loop-transcripts
invariant-loop-transcripts l = l.out ≡ l.initial.out ++ flat_map session_line (flat_map (λ transcripts. transcripts) (take l.transcripts-index l.passes))
