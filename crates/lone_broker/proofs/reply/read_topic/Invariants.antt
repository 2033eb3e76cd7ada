use Rattle.std.proofs.Common.{◌≡◌, ◌≤◌, ◌+◌, ◌++◌, drop, All}
use Rattle.kanswer.specs.LogReadings.{HasCarriable}
use Rattle.kanswer.specs.BytesRead.{bytes_read, most_left}
use Rattle.lone_broker.specs.Gathered.{readings_now, left_behind}
use Rattle.lone_broker.proofs.reply.read_topic.Given as goal

abbrev pub invariant-loop-at : goal.invariant-loop-at
invariant-loop-at l = record {
  read : l.readings ++ readings_now l.reader.parts.now l.reader.replica (drop l.at l.asked) (drop l.at l.accepted) l.budget ≡ l.fn.readings ++ readings_now l.reader.parts.now l.reader.replica l.asked l.accepted l.fn.budget;
  left : left_behind l.reader.parts.now l.reader.replica (drop l.at l.asked) (drop l.at l.accepted) l.budget ≡ left_behind l.reader.parts.now l.reader.replica l.asked l.accepted l.fn.budget;
  offsets : All HasCarriable l.fn.readings → All HasCarriable l.readings;
  room : bytes_read l.readings + most_left l.budget ≤ bytes_read l.fn.readings + most_left l.fn.budget;
}
