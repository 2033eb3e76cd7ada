use Rattle.turn_lock.specs.Locks.{IsPassOf, IsReady, known}
use Rattle.shared_logs.specs.Desks.{moment_name}
use Rattle.shared_logs.specs.Turned.{HasSeenMore}
use Rattle.shared_logs.proofs.clock_turns.late_turn.Given as goal

abbrev pub invariant-loop : goal.invariant-loop
invariant-loop g l = record {
  of_lock : IsPassOf moment_name l.lock l.key × IsReady l.key;
  more : HasSeenMore (known l.initial.key) (known l.key);
}
