use Rattle.std.proofs.Common.{◌≡◌, All, length, take}
use Rattle.kanswer.specs.LogReadings.{HasCarriable}
use Rattle.kanswer.specs.BytesRead.{bytes_read}
use Rattle.kanswer.specs.PartitionGauges.{high_gauge}
use Rattle.shared_calls.specs.Fresh.{IsFresh}
use Rattle.shared_calls.specs.Readings.{WereNumbered}
use Rattle.shared_calls.proofs.reading.look_at_each.Given as goal

abbrev pub invariant-loop-became : goal.invariant-loop-became
invariant-loop-became g l = record {
  made : l.pass.made ≡ l.call.by.now.logs.now;
  looked : WereNumbered l.call.by.now.seq (IsFresh high_gauge l.call.needs.now l.call.values.now) l.fn.pass l.fn.points (take l.became-index l.accepted) l.pass l.points l.readings;
  offsets : All HasCarriable l.readings;
  size : length l.readings ≡ l.became-index;
  none : bytes_read l.readings ≡ 0;
}
