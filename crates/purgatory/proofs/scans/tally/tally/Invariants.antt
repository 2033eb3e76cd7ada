use Rattle.std.proofs.Common.{◌≡◌, ◌≤◌, ◌*◌, ◌^◌, slice_index}
use Rattle.room_core.specs.Description.{tally_below}
use Rattle.purgatory.proofs.scans.tally.tally.Given as goal

abbrev pub invariant-loop-need : goal.invariant-loop-need
invariant-loop-need l = record {
  counted : l.total ≡ tally_below (slice_index l.words) (slice_index l.values) l.need;
  small : l.total ≤ l.need * 2 ^ 64;
}
