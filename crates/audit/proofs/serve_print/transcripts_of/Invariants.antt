use Rattle.std.proofs.Common.{◌≡◌, take}
use Rattle.std.specs.List.{flat_map}
use Rattle.audit.specs.Links.{lent}
use Rattle.audit.proofs.serve_print.transcripts_of.Given as goal

abbrev pub invariant-loop-transcripts : goal.invariant-loop-transcripts
invariant-loop-transcripts l = lent l.links.items ≡ flat_map (λ transcripts. transcripts) (take l.transcripts-index l.passes)
