use Rattle.timing_wheel.proofs.Waiting.{AllWait-take}
use Rattle.timing_wheel.proofs.wheels.Wheels.remove.Goals as goal

pub invariant_of-self : goal.invariant_of-self
invariant_of-self c = rw c.take.ensures.rest (AllWait-take c.self.inside.moment c.self.inside.entries c.args.id c.self.invariant)
