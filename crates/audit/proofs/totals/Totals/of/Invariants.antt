use Rattle.std.proofs.Common.{take}
use Rattle.std.specs.List.{flat_map}
use Rattle.audit.specs.Totals.{AreTotals}
use Rattle.audit.proofs.totals.Totals.of.Given as goal

abbrev pub invariant-loop-transcripts : goal.invariant-loop-transcripts
invariant-loop-transcripts l = AreTotals (flat_map (λ transcripts. transcripts) (take l.transcripts-index l.passes)) l.totals
