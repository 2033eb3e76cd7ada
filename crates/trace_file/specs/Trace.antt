-- The text of a trace: lines in order, each ended by a line feed, the last one with it or without.
use Rattle.std.specs.Prelude.{ℕ, ◌≤◌, ◌==◌, List, [], ◌∷◌, length, if◌then◌else◌}
use Rattle.std.specs.List.{slice_split, AllZip}
use Rattle.trace_file.specs.declared.line.Line.{Line}
use Rattle.trace_file.specs.declared.line.TheConstants.{MOST_TRACE_BYTES}
use Rattle.trace_file.specs.IsLine.{IsLine}
use Rattle.trace_file.specs.IsInOrder.{IsInOrder}

-- all but the last piece where it is empty
abbrev pub without_empty_end : List (List ℕ) → List (List ℕ)
without_empty_end [] = []
without_empty_end (piece ∷ []) = if length piece == 0 then [] else piece ∷ []
without_empty_end (piece ∷ next ∷ pieces) = piece ∷ without_empty_end (next ∷ pieces)

-- what stands between the line feeds of a text; a last piece that is empty is no line
abbrev pub pieces_of : List ℕ → List (List ℕ)
pieces_of text = without_empty_end (slice_split (λ byte. byte == 10) text)

pub record IsTrace (text : List ℕ) (lines : List Line) : Type 0 where
  pub size : length text ≤ MOST_TRACE_BYTES
  pub spelled : AllZip IsLine (pieces_of text) lines
  pub order : IsInOrder lines
