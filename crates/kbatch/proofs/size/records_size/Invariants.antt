use Rattle.std.proofs.Common.{◌≡◌, ◌-◌, ◌^◌, min, length, take}
use Rattle.std.specs.List.{AllByRecursion}
use Rattle.kbatch.specs.Record.{IsRecord, records_from}
use Rattle.kbatch.proofs.size.records_size.Given as goal

abbrev pub invariant-loop-delta : goal.invariant-loop-delta
invariant-loop-delta l = record {
  each : AllByRecursion IsRecord (take l.delta l.records);
  size : l.size ≡ min (length (records_from 0 (take l.delta l.records))) (2 ^ 64 - 1);
}
