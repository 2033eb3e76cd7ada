use Rattle.std.proofs.Common.{◌≡◌, ◌≤◌, ◌+◌, ◌++◌, All, List, length, take}
use Rattle.kanswer.specs.declared.accepted.Reading.{Reading}
use Rattle.kanswer.specs.LogReadings.{HasCarriable}
use Rattle.kanswer.specs.BytesRead.{bytes_read, most_left}
use Rattle.kanswer.specs.PartitionGauges.{fetched_gauge}
use Rattle.shared_calls.specs.Fresh.{IsFresh}
use Rattle.shared_calls.specs.Readings.{WereRead}
use Rattle.shared_calls.proofs.reading.read_topic.Given as goal

abbrev pub invariant-loop-at : goal.invariant-loop-at
invariant-loop-at g l = record {
  made : l.pass.made ≡ l.call.looking.by.now.logs.now;
  read : (more : List Reading) × (l.readings ≡ l.fn.readings ++ more)
      × WereRead l.call.looking.by.now.seq (IsFresh (fetched_gauge l.call.replica) l.call.looking.needs.now l.call.looking.values.now) l.call.replica (take l.at l.asked) l.fn.pass l.fn.points (take l.at l.accepted) l.fn.budget l.pass l.points l.budget more;
  offsets : All HasCarriable l.fn.readings → All HasCarriable l.readings;
  size : length l.readings ≡ length l.fn.readings + l.at;
  room : bytes_read l.readings + most_left l.budget ≤ bytes_read l.fn.readings + most_left l.fn.budget;
}
