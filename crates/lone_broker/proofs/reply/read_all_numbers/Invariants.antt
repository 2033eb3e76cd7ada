use Rattle.std.proofs.Common.{◌≡◌, map, take, All}
use Rattle.kanswer.specs.LogReadings.{HasCarriable}
use Rattle.lone_broker.specs.Gathered.{numbers_now}
use Rattle.lone_broker.proofs.reply.read_all_numbers.Given as goal

abbrev pub invariant-loop-became : goal.invariant-loop-became
invariant-loop-became l = record {
  read : l.readings ≡ map (numbers_now l.parts) (take l.became-index l.accepted);
  offsets : All HasCarriable l.readings;
}
