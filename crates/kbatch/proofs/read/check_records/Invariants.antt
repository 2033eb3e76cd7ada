use Rattle.kbatch.proofs.Records.{AreRead}
use Rattle.kbatch.proofs.read.check_records.Given as goal

-- records stand before what is left
abbrev pub invariant-loop-delta : goal.invariant-loop-delta
invariant-loop-delta l = AreRead l.bytes l.delta l.rest
