use Rattle.std.proofs.Common.{◌≡◌, [], ◌∷◌, map, take}
use Rattle.kwire.specs.Configuration.{followers_of}
use Rattle.kanswer.specs.Decisions.{fetch_decisions, fetch_parts}
use Rattle.lone_broker.specs.Carried.{IsCarried}
use Rattle.lone_broker.proofs.accept.fetch_topic.Given as goal

abbrev pub invariant-loop-part : goal.invariant-loop-part
invariant-loop-part l = record {
  followers : map (λ h. h.followers) l.parts ≡ followers_of l.call.config.now.topics;
  carried : IsCarried l.call.visitor.who.by l.call.visitor.who.seq l.call.visitor.moment (fetch_decisions l.call.config.now l.call.replica (fetch_parts (record l.topic { parts = take l.part-index l.topic.parts } ∷ []))) l.fn.parts l.parts l.fn.came l.came;
}
