use Rattle.std.proofs.Common.{◌≡◌, ℕ, ◌<◌, ◌≤◌}
use Rattle.room_table.specs.Seats.{caller_now}
use Rattle.purgatory.specs.Going.{GoesOn, KeepsOperation}
use Rattle.purgatory.proofs.room.Room.settle_all.Given as goal

abbrev pub invariant-loop-gauge : goal.invariant-loop-gauge
invariant-loop-gauge g l = record {
  went : GoesOn l.initial.owner l.owner;
  kept : KeepsOperation (caller_now l.initial.owner) (caller_now l.owner);
  paid : (gauge : ℕ) → gauge < l.gauge → (caller_now l.owner).owed gauge ≡ 0;
  none : (gauge : ℕ) → l.upto ≤ gauge → (caller_now l.owner).owed gauge ≡ 0;
  keys : l.keys ≡ l.initial.keys;
}
