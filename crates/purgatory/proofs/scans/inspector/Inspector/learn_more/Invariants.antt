use Rattle.std.proofs.Common.{◌≡◌, ℕ, ◌<◌, ◌≤◌}
use Rattle.room_core.specs.Meetings.{words_of}
use Rattle.room_table.specs.Seats.{scanner_now}
use Rattle.purgatory.specs.scans.Checked.{HasLooked}
use Rattle.purgatory.specs.scans.Going.{GoesOn}
use Rattle.purgatory.specs.scans.Inspected.{AreLearnedBelow}
use Rattle.purgatory.proofs.scans.inspector.Inspector.learn_more.Given as goal

abbrev pub invariant-loop-at : goal.invariant-loop-at
invariant-loop-at l = record {
  after : l.from ≤ l.at;
  went : GoesOn l.initial.self l.self;
  looked : HasLooked (scanner_now l.initial.self) (scanner_now l.self);
  learned : AreLearnedBelow (scanner_now l.self) l.at;
  kept : (i : ℕ) → i < l.from → words_of (scanner_now l.self) i ≡ words_of (scanner_now l.initial.self) i;
}
