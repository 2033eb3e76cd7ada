use Rattle.std.proofs.Common.{◌≡◌, ◌++◌, length}
use Rattle.std.specs.Prelude.{All, false}
use Rattle.room_table.specs.Seats.{SourceView, source_now}
use Rattle.purgatory.proofs.closing.StillRoom.close_with_words.Given as goal

abbrev pub invariant-loop-source : goal.invariant-loop-source
invariant-loop-source l = record {
  table : l.closing.table ≡ l.initial.closing.table;
  scanners : l.closing.scanners ≡ l.initial.closing.scanners;
  callers : l.closing.callers ≡ l.initial.closing.callers;
  sources : l.sources ++ l.closing.sources ≡ l.fn.sources;
  made : All (λ (source : SourceView). source.table ≡ l.initial.closing.table) l.sources;
  quiet : All (λ (source : SourceView). (source_now source).loud ≡ false) l.closing.sources;
}

abbrev pub decreases-loop-source : goal.decreases-loop-source
decreases-loop-source l = length l.sources
