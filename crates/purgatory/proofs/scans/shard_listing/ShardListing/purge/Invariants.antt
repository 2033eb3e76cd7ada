use Rattle.std.proofs.Common.{◌≡◌, ℕ, ◌<◌, length}
use Rattle.std.specs.Prelude.{slice_index}
use Rattle.room_core.specs.Scans.{HasNoDuty}
use Rattle.room_table.specs.Seats.{scanner_now}
use Rattle.watch_lists.specs.Watches.{IsListed}
use Rattle.purgatory.specs.scans.Going.{GoesOn, HasMet}
use Rattle.purgatory.specs.scans.ShardKeeps.{AreEntries}
use Rattle.purgatory.proofs.scans.shard_listing.ShardListing.purge.Given as goal

abbrev pub invariant-loop-pass : goal.invariant-loop-pass
invariant-loop-pass l = record {
  went : GoesOn l.initial.self-inside.scanner l.self-inside.scanner;
  shard : l.self-inside.shard ≡ l.initial.self-inside.shard;
  size : length l.self-inside.generations.items ≡ l.initial.self-inside.scanner.table.shape.passes;
  entries : AreEntries l.initial.self-inside.scanner.table.shape l.initial.self-inside.scanner.scanner
      (λ key p g. IsListed l.initial.self-inside.shard key p g × (p < l.pass → g ≡ slice_index l.self-inside.generations.items p)) (scanner_now l.self-inside.scanner);
  met : (p : ℕ) → p < l.pass → HasMet p l.initial.self-inside.scanner l.self-inside.scanner;
  no_duty : HasNoDuty (scanner_now l.initial.self-inside.scanner) → HasNoDuty (scanner_now l.self-inside.scanner);
}
