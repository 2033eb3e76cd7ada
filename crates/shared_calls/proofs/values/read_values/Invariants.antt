use Rattle.std.proofs.Common.{◌≡◌, length}
use Rattle.purgatory.specs.Going.{KeepsOperation}
use Rattle.room_table.specs.Seats.{caller_now}
use Rattle.shared_logs.specs.Coming.{HasStepped}
use Rattle.shared_calls.proofs.values.read_values.Given as goal

abbrev pub invariant-loop-at : goal.invariant-loop-at
invariant-loop-at l = record {
  size : length l.values ≡ 64;
  made : l.pass.made ≡ l.logs;
  stepped : HasStepped l.fn.pass l.pass;
  kept : KeepsOperation (caller_now l.fn.pass.seat) (caller_now l.pass.seat);
}
