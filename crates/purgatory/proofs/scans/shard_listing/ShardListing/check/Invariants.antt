use Rattle.purgatory.specs.scans.Shelf.{IsAtCheck}
use Rattle.purgatory.proofs.scans.shard_listing.ShardListing.check.Given as goal

abbrev pub invariant-loop : goal.invariant-loop
invariant-loop g l = IsAtCheck l.gauge l.watch.id l.watch.generation l.initial.self l.self
