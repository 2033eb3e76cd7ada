use Rattle.std.proofs.Common.{◌≡◌, ◌++◌, ℕ, length}
use Rattle.std.specs.Prelude.{All}
use Rattle.std.specs.Vec.Iter.{into_iter_items, into_iter_len}
use Rattle.shared_broker.specs.Making.{fresh_passes}
use Rattle.shared_broker.specs.Passes.{BrokerView}
use Rattle.trace_workers.specs.Dealing.{AreDealing}
use Rattle.trace_workers.specs.Workers.{AllKeep}
use Rattle.trace_workers.proofs.dealing.deal_sessions.Given as goal

abbrev pub invariant-loop-pass : goal.invariant-loop-pass
invariant-loop-pass l = record {
  number : l.number ≡ length l.yielded;
  len : into_iter_len l.pass-iterator ≡ length (into_iter_items l.pass-iterator);
  whole : l.yielded ++ into_iter_items l.pass-iterator ≡ l.fn.passes;
  dealt : (broker : BrokerView) (count : ℕ) → l.fn.passes ≡ fresh_passes broker count → AreDealing broker 0 (length l.fn.workers) l.fn.workers → AreDealing broker l.number (length l.fn.workers) l.workers;
  kept : All (AllKeep l.keeps_lines) l.fn.workers → All (AllKeep l.keeps_lines) l.workers;
}
