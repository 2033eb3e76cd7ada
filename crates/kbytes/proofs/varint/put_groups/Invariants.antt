use Rattle.kbytes.proofs.Written.{IsPartly}
use Rattle.kbytes.proofs.varint.put_groups.Given as goal

abbrev pub invariant-loop-rest : goal.invariant-loop-rest
invariant-loop-rest l = IsPartly l.bytes l.last l.number l.count l.rest

abbrev pub decreases-loop-rest : goal.decreases-loop-rest
decreases-loop-rest l = l.rest
