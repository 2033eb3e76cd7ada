use Rattle.std.proofs.Common.{◌≡◌}
use Rattle.tests_of_libraries.proofs.turns.given_back.Given as goal

abbrev pub invariant-loop-pass : goal.invariant-loop-pass
invariant-loop-pass l = l.list ≡ l.yielded
