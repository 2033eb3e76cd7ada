use Rattle.std.proofs.Common.{◌≡◌}
use Rattle.room_table.specs.Seats.{caller_now}
use Rattle.purgatory.specs.Listed.{GoesListing, HasSeenBelow}
use Rattle.purgatory.proofs.room.Room.list_needs.Given as goal

abbrev pub invariant-loop-at : goal.invariant-loop-at
invariant-loop-at g l = record {
  goes : GoesListing l.initial.owner l.owner;
  seen : HasSeenBelow l.at (caller_now l.owner);
  keys : l.keys ≡ l.initial.keys;
}
