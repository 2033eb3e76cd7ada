use Rattle.std.proofs.Common.{◌≡◌, length, reverse}
use Rattle.audit.specs.broker.Board.{passes_of}
use Rattle.lone_broker.proofs.Closings.{passes_before}
use Rattle.lone_broker.proofs.closing.passes_of.Given as goal

abbrev pub invariant-loop-desk : goal.invariant-loop-desk
invariant-loop-desk l = passes_before l.desks (reverse l.passes) ≡ passes_of l.initial.desks

abbrev pub decreases-loop-desk : goal.decreases-loop-desk
decreases-loop-desk l = length l.desks
