use Rattle.std.proofs.Common.{◌≡◌}
use Rattle.purgatory.specs.Going.{KeepsOperation}
use Rattle.room_table.specs.Seats.{caller_now}
use Rattle.shared_logs.specs.Coming.{HasStepped}
use Rattle.shared_calls.proofs.values.satisfying.Given as goal

abbrev pub invariant-loop : goal.invariant-loop
invariant-loop g l = record {
  made : l.pass.made ≡ l.by.logs.now;
  stepped : HasStepped l.fn.pass l.pass;
  kept : KeepsOperation (caller_now l.fn.pass.seat) (caller_now l.pass.seat);
}
