use Rattle.std.proofs.Common.{◌≡◌, ◌≤◌, ◌+◌, All, drop, length, sum_by, take}
use Rattle.std.specs.List.{flat_map}
use Rattle.kanswer.specs.LogReadings.{HasCarriable}
use Rattle.kanswer.specs.BytesRead.{bytes_read, most_left}
use Rattle.kanswer.specs.PartitionGauges.{fetched_gauge}
use Rattle.shared_calls.specs.Fresh.{IsFresh}
use Rattle.shared_calls.specs.Readings.{WereRead}
use Rattle.shared_calls.proofs.reading.read_each.Given as goal

abbrev pub invariant-loop-topic : goal.invariant-loop-topic
invariant-loop-topic g l = record {
  made : l.pass.made ≡ l.call.looking.by.now.logs.now;
  rest : l.from + sum_by (λ topic. length topic.parts) (drop l.topic-index l.topics) ≡ length l.accepted;
  read : WereRead l.call.looking.by.now.seq (IsFresh (fetched_gauge l.call.replica) l.call.looking.needs.now l.call.looking.values.now) l.call.replica (flat_map (λ topic. topic.parts) (take l.topic-index l.topics))
      l.fn.pass l.fn.points (take l.from l.accepted) l.fn.budget l.pass l.points l.budget l.readings;
  offsets : All HasCarriable l.readings;
  size : length l.readings ≡ l.from;
  room : bytes_read l.readings + most_left l.budget ≤ most_left l.fn.budget;
}
