use Rattle.std.proofs.Common.{ℕ, ◌<◌}
use Rattle.room_core.specs.Checks.{IsRead}
use Rattle.room_core.specs.Description.{gauge_of}
use Rattle.room_core.specs.Gauges.{IsGauge}
use Rattle.room_core.specs.Meetings.{words_of}
use Rattle.room_table.specs.Seats.{scanner_now}
use Rattle.purgatory.specs.scans.Checked.{HasReadMore}
use Rattle.purgatory.specs.scans.Going.{GoesOn}
use Rattle.purgatory.proofs.scans.inspector.Inspector.read_needs.Given as goal

abbrev pub invariant-loop-need : goal.invariant-loop-need
invariant-loop-need l = record {
  went : GoesOn l.initial.self l.self;
  more : HasReadMore (scanner_now l.initial.self) (scanner_now l.self);
  read : (i : ℕ) → i < l.need → IsRead (scanner_now l.self).readings l.last (gauge_of (words_of (scanner_now l.initial.self)) i);
  there : (i : ℕ) → i < l.need → IsGauge l.initial.self.table.shape (gauge_of (words_of (scanner_now l.initial.self)) i);
}
