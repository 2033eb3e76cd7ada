use Rattle.std.proofs.Common.{Some, sym, ◌∙◌}
use Rattle.std.proofs.lemmas.List.Elements.{All-pop}
use Rattle.outside.specs.Wire.{IsNewWire}
use Rattle.outside.proofs.Turned.{front_empty}
use Rattle.outside.proofs.mem_port.MemPortPort.accept.Goals as goal

pub invariant_of-self-in-Some : goal.invariant_of-self-in-Some
invariant_of-self-in-Some c = (
  (All-pop IsNewWire c.self.inside.waiting c.pop.new.self c.pop.result c.pop.ensures.items c.self.invariant.0).0,
  λ ended. front_empty c.pop.new.self _ (sym c.pop.ensures.items ∙ c.self.invariant.1 ended),
)

pub returns-in-Some-clause-link : goal.returns-in-Some-clause-link
returns-in-Some-clause-link c = (All-pop IsNewWire c.self.inside.waiting c.pop.new.self (Some c.in-Some.link) c.in-Some.ensures.items c.self.invariant.0).1
