use Rattle.std.proofs.Common.{◌≡◌, map}
use Rattle.audit.specs.broker.books.Told.{told}
use Rattle.shared_broker.proofs.closing.all_told.Given as goal

abbrev pub invariant-loop-transcript : goal.invariant-loop-transcript
invariant-loop-transcript l = l.all ≡ map told l.yielded
