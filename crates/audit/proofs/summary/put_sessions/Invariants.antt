use Rattle.std.proofs.Common.{◌≡◌, ◌++◌, take}
use Rattle.std.specs.List.{flat_map}
use Rattle.audit.specs.Printed.{session_line}
use Rattle.audit.proofs.summary.put_sessions.Given as goal

abbrev pub invariant-loop-transcript : goal.invariant-loop-transcript
invariant-loop-transcript l = l.out ≡ l.initial.out ++ flat_map session_line (take l.transcript-index l.transcripts)
