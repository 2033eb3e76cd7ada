use Rattle.std.proofs.Common.{◌≡◌, ◌++◌, All, length, reverse}
use Rattle.outside.specs.Wire.{IsNewWire}
use Rattle.outside.proofs.mem_port.MemPort.new.Given as goal

-- the links that are left and those that wait are the links
abbrev pub invariant-loop-link : goal.invariant-loop-link
invariant-loop-link l = (l.links ++ reverse l.waiting ≡ l.fn.links) × All IsNewWire l.links × All IsNewWire l.waiting

abbrev pub decreases-loop-link : goal.decreases-loop-link
decreases-loop-link l = length l.links
