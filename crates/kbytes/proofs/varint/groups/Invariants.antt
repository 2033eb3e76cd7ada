use Rattle.kbytes.proofs.Groups.{IsHalfway}
use Rattle.kbytes.proofs.varint.groups.Given as goal

abbrev pub invariant-loop-place : goal.invariant-loop-place
invariant-loop-place l = IsHalfway l.rest l.at l.last l.place l.number
