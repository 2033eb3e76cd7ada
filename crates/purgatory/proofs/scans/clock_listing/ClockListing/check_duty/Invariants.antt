use Rattle.std.proofs.Common.{◌≡◌}
use Rattle.timing_wheel.specs.Timers.{ids_of}
use Rattle.purgatory.specs.scans.Coming.{ChangesOnly, IsOnDuty}
use Rattle.purgatory.proofs.scans.clock_listing.ClockListing.check_duty.Given as goal

abbrev pub invariant-loop : goal.invariant-loop
invariant-loop g l = record {
  only : ChangesOnly l.pass l.initial.self l.self;
  duty : IsOnDuty l.pass l.entry l.self;
  ids : ids_of l.self.timers ≡ ids_of l.initial.self.timers;
}
