use Rattle.std.proofs.Common.{◌≡◌, length, take}
use Rattle.lone_broker.specs.Carried.{HasProduced}
use Rattle.lone_broker.proofs.accept.produce.Given as goal

abbrev pub invariant-loop-topic : goal.invariant-loop-topic
invariant-loop-topic l = record {
  size : length l.parts ≡ length l.fn.parts;
  carried : HasProduced l.call.config.now l.call.terms l.call.visitor.who.by l.call.visitor.who.seq l.call.visitor.moment (take l.topic-index l.topics) l.fn.parts l.parts l.fn.came l.came;
}
