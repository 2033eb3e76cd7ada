use Rattle.std.proofs.Common.{◌++◌, take, List}
use Rattle.audit.specs.declared.account.Transcript.{Transcript}
use Rattle.audit.specs.Totals.{AreTotals}
use Rattle.audit.proofs.totals.Totals.add_pass.Given as goal

abbrev pub invariant-loop-transcript : goal.invariant-loop-transcript
invariant-loop-transcript l = (before : List Transcript) → AreTotals before l.initial.self → AreTotals (before ++ take l.transcript-index l.transcripts) l.self
