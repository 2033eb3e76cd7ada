use Rattle.std.proofs.Common.{◌≡◌, ◌++◌, take}
use Rattle.kbatch.specs.Record.{records_from}
use Rattle.kbatch.proofs.write.put_all.Given as goal

abbrev pub invariant-loop-delta : goal.invariant-loop-delta
invariant-loop-delta l = l.out ≡ l.initial.out ++ records_from 0 (take l.delta l.records)
