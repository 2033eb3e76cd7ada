use Rattle.std.proofs.Common.{◌≡◌}
use Rattle.room_table.specs.Seats.{scanner_now}
use Rattle.purgatory.specs.scans.Going.{GoesOn}
use Rattle.purgatory.specs.scans.Shelf.{AreDutiesBelow}
use Rattle.purgatory.proofs.scans.shard_listing.ShardListing.scan.Given as goal

abbrev pub invariant-loop-left : goal.invariant-loop-left
invariant-loop-left g l = record {
  went : GoesOn l.initial.self.seat l.self.seat;
  began : (scanner_now l.self.seat).began ≡ (scanner_now l.initial.self.seat).began;
  duties : AreDutiesBelow l.gauge l.key l.left l.self.watches (scanner_now l.self.seat);
}

abbrev pub decreases-loop-left : goal.decreases-loop-left
decreases-loop-left g l = l.left
