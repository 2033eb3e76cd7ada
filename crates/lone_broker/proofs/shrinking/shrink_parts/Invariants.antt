use Rattle.std.proofs.Common.{◌≡◌, ◌++◌, drop, map, take}
use Rattle.partlog.specs.Shrunk.{all_shrunk}
use Rattle.lone_broker.proofs.shrinking.shrink_parts.Given as goal

abbrev pub invariant-loop-at : goal.invariant-loop-at
invariant-loop-at l = l.parts ≡ map (λ h. all_shrunk h 0 l.t) (take l.at l.fn.parts) ++ drop l.at l.fn.parts
