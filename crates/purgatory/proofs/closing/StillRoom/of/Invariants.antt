use Rattle.std.proofs.Common.{◌≡◌, ℕ, ◌<◌, ◌++◌, length}
use Rattle.std.specs.Prelude.{All, slice_index}
use Rattle.room_table.specs.Seats.{caller_now}
use Rattle.purgatory.specs.Ends.{seats_of}
use Rattle.purgatory.specs.Going.{OwesNothing}
use Rattle.purgatory.specs.Noted.{AreNoted}
use Rattle.purgatory.specs.Rooms.{PassView}
use Rattle.purgatory.specs.Still.{IsSettledSeat}
use Rattle.purgatory.proofs.closing.StillRoom.of.Given as goal

abbrev pub invariant-loop-pass : goal.invariant-loop-pass
invariant-loop-pass l = record {
  table : l.closing.table ≡ l.fn.closing.table;
  sources : length l.closing.sources ≡ 0;
  scanners : l.closing.scanners ≡ l.fn.closing.scanners;
  callers : seats_of l.passes ++ l.closing.callers ≡ seats_of l.fn.passes;
  size : length l.wins ≡ length l.fn.wins;
  left : All (λ (pass : PassView). (pass.seat.table ≡ l.fn.closing.table) × OwesNothing (caller_now pass.seat)) l.passes;
  settled : All IsSettledSeat l.closing.callers;
  noted : AreNoted l.wins l.closing.callers;
  low : (k : ℕ) → k < 17 → slice_index l.wins k ≡ slice_index l.fn.wins k;
}

abbrev pub decreases-loop-pass : goal.decreases-loop-pass
decreases-loop-pass l = length l.passes
