use Rattle.std.proofs.Common.{◌≡◌}
use Rattle.std.specs.List.{AllZip}
use Rattle.shared_broker.specs.Closed.{IsJoined, gathered}
use Rattle.shared_broker.proofs.closing.take_apart.Given as goal

abbrev pub invariant-loop-pass : goal.invariant-loop-pass
invariant-loop-pass l = record {
  all : l.yielded ≡ gathered l.logs l.sheets;
  joined : AllZip IsJoined l.logs l.sheets;
}
