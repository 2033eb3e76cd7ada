use Rattle.std.proofs.Common.{◌≡◌, map, take}
use Rattle.partlog.specs.Gauges.{numbers_of}
use Rattle.partlog.specs.State.{state_of}
use Rattle.lone_broker.proofs.watched.numbers_of.Given as goal

abbrev pub invariant-loop-part : goal.invariant-loop-part
invariant-loop-part l = l.told ≡ map (λ h. numbers_of (state_of h)) (take l.part-index l.parts)
