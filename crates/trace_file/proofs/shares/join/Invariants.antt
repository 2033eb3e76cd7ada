use Rattle.std.proofs.Common.{◌≡◌, ◌++◌, List, Bor, ℕ, length}
use Rattle.std.specs.List.{AllZip}
use Rattle.std.specs.Vec.Iter.{into_iter_items, into_iter_len}
use Rattle.trace_file.specs.Sees.{AreRead}
use Rattle.trace_file.specs.Shares.{IsShareRead, pieces_in}
use Rattle.trace_file.specs.TextRead.{HasRead}
use Rattle.std.proofs.Common.{Bool}
use Rattle.trace_file.proofs.shares.join.Given as goal

abbrev pub invariant-loop-read : goal.invariant-loop-read
invariant-loop-read l = record {
  len : into_iter_len l.read-iterator ≡ length (into_iter_items l.read-iterator);
  read : AreRead l.reading.only_topics l.reading;
  left : (shares : List (Bor (List ℕ))) × AllZip IsShareRead shares (into_iter_items l.read-iterator);
  taken : (only_topics : Bool) (before : List (List ℕ)) (shares : List (Bor (List ℕ))) → HasRead only_topics before l.fn.reading → AllZip IsShareRead shares l.fn.reads.items
      → (rest : List (Bor (List ℕ))) × (now : List (List ℕ)) × AllZip IsShareRead rest (into_iter_items l.read-iterator) × (before ++ pieces_in shares ≡ now ++ pieces_in rest)
      × HasRead only_topics now l.reading;
}
