use Rattle.std.proofs.Common.{◌≡◌, ◌++◌, List, length}
use Rattle.room_table.specs.Seats.{SourceView}
use Rattle.room_table.proofs.hand.take_sources.Given as goal

abbrev pub invariant-loop-source : goal.invariant-loop-source
invariant-loop-source l = (rest : List SourceView) × (l.fn.sources ≡ l.sources ++ rest) × (l.closing ≡ record l.initial.closing { sources = rest ++ l.initial.closing.sources })

abbrev pub decreases-loop-source : goal.decreases-loop-source
decreases-loop-source l = length l.sources
