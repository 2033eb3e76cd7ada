use Rattle.std.proofs.Common.{◌≡◌, length}
use Rattle.purgatory.proofs.making.no_wins.Given as goal

abbrev pub invariant-loop : goal.invariant-loop
invariant-loop l = length l.wins ≡ l.counter
