use Rattle.std.proofs.Common.{◌≡◌, ◌++◌, take}
use Rattle.audit.specs.Links.{lent}
use Rattle.audit.proofs.serve_print.push_all.Given as goal

abbrev pub invariant-loop-transcript : goal.invariant-loop-transcript
invariant-loop-transcript l = lent l.links.items ≡ lent l.initial.links.items ++ take l.transcript-index l.transcripts
