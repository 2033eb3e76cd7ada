use Rattle.std.proofs.Common.{◌≡◌, [], ◌∷◌, length, take}
use Rattle.lone_broker.specs.Carried.{HasProduced}
use Rattle.lone_broker.proofs.accept.produce_topic.Given as goal

abbrev pub invariant-loop-part : goal.invariant-loop-part
invariant-loop-part l = record {
  size : length l.parts ≡ length l.fn.parts;
  carried : HasProduced l.call.config.now l.call.terms l.call.visitor.who.by l.call.visitor.who.seq l.call.visitor.moment (record l.topic { parts = take l.part-index l.topic.parts } ∷ []) l.fn.parts l.parts l.fn.came l.came;
}
