use Rattle.std.proofs.Common.{◌≡◌}
use Rattle.room_table.specs.Seats.{scanner_now}
use Rattle.timing_wheel.specs.Timers.{ids_of}
use Rattle.purgatory.specs.scans.Coming.{AreComingFrom}
use Rattle.purgatory.specs.scans.Going.{GoesOn}
use Rattle.purgatory.proofs.scans.clock_listing.ClockListing.scan.Given as goal

abbrev pub invariant-loop-place : goal.invariant-loop-place
invariant-loop-place g l = record {
  went : GoesOn l.initial.self.seat l.self.seat;
  began : (scanner_now l.self.seat).began ≡ (scanner_now l.initial.self.seat).began;
  ids : ids_of l.self.timers ≡ ids_of l.initial.self.timers;
  coming : AreComingFrom l.place l.due.ids l.self;
}
