use Rattle.std.proofs.Common.{◌≡◌, take}
use Rattle.lone_broker.specs.Gathered.{numbers_in}
use Rattle.lone_broker.proofs.reply.numbers_of.Given as goal

abbrev pub invariant-loop-became : goal.invariant-loop-became
invariant-loop-became l = l.numbers ≡ numbers_in l.parts (take l.became-index l.accepted)
