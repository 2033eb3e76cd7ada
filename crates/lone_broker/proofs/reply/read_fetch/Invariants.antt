use Rattle.std.proofs.Common.{◌≡◌, ◌≤◌, ◌+◌, ◌++◌, drop, length, sum_by, All}
use Rattle.std.specs.List.{flat_map}
use Rattle.kanswer.specs.LogReadings.{HasCarriable}
use Rattle.kanswer.specs.BytesRead.{bytes_read, most_left}
use Rattle.lone_broker.specs.Gathered.{readings_now}
use Rattle.lone_broker.proofs.reply.read_fetch.Given as goal

abbrev pub invariant-loop-topic : goal.invariant-loop-topic
invariant-loop-topic l = record {
  size : l.from + sum_by (λ topic. length topic.parts) (drop l.topic-index l.topics) ≡ length l.accepted;
  read : l.readings ++ readings_now l.reader.parts.now l.reader.replica (flat_map (λ topic. topic.parts) (drop l.topic-index l.topics)) (drop l.from l.accepted) l.budget ≡ readings_now l.reader.parts.now l.reader.replica (flat_map (λ topic. topic.parts) l.topics) l.accepted l.fn.budget;
  offsets : All HasCarriable l.readings;
  room : bytes_read l.readings + most_left l.budget ≤ most_left l.fn.budget;
}
