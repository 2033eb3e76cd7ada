-- Reading the pieces of a text, one after the other.
use Rattle.std.proofs.Common.{◌≡◌, ℕ, arith, length, List, [], ◌∷◌, ◌++◌, refl, sym, ap, subst, ◌∙◌}
use Rattle.std.specs.List.{AllZip}
use Rattle.std.proofs.lemmas.List.{append_assoc, append-nil}
use Rattle.trace_file.specs.declared.line.Line.{Line}
use Rattle.trace_file.specs.IsLine.{IsLine, words_of}
use Rattle.trace_file.specs.Trace.{pieces_of}
use Rattle.trace_file.proofs.Lines.{words_say}

-- these lines are read, and this text is left
pub record IsReading (text rest : List ℕ) (lines : List Line) : Type 0 where
  pub pieces : List (List ℕ)
  pub whole : pieces_of text ≡ pieces ++ pieces_of rest
  pub spelled : AllZip IsLine pieces lines

pub reading_none : (text : List ℕ) → IsReading text text []
reading_none text = record { pieces = []; whole = refl; spelled = tt }

zip_push : (pieces : List (List ℕ)) (lines : List Line) (piece : List ℕ) (line : Line) → AllZip IsLine pieces lines → IsLine piece line → AllZip IsLine (pieces ++ piece ∷ []) (lines ++ line ∷ [])
zip_push [] [] piece line h here = (here, tt)
zip_push [] (l ∷ lines) piece line h here = absurd h
zip_push (p ∷ pieces) [] piece line h here = absurd h
zip_push (p ∷ pieces) (l ∷ lines) piece line h here = (h.0, zip_push pieces lines piece line h.1 here)

pub reading_more : (text rest behind piece : List ℕ) (lines : List Line) (line : Line) → IsReading text rest lines → pieces_of rest ≡ piece ∷ pieces_of behind → IsLine piece line → IsReading text behind (lines ++ line ∷ [])
reading_more text rest behind piece lines line h e here = record {
  pieces = h.pieces ++ piece ∷ [];
  whole = h.whole ∙ ap (λ (ps : List (List ℕ)). h.pieces ++ ps) e ∙ sym (append_assoc h.pieces (piece ∷ []) (pieces_of behind));
  spelled = zip_push h.pieces lines piece line h.spelled here;
}

pub reading_all : (text rest : List ℕ) (lines : List Line) → IsReading text rest lines → rest ≡ [] → AllZip IsLine (pieces_of text) lines
reading_all text rest lines h done =
    let all : pieces_of text ≡ h.pieces = h.whole ∙ ap (λ (r : List ℕ). h.pieces ++ pieces_of r) done ∙ append-nil h.pieces in
    subst (λ (ps : List (List ℕ)). AllZip IsLine ps lines) (sym all) h.spelled

-- the lines of a text begin with those of its front
pub zip_front : (pieces more : List (List ℕ)) (lines all : List Line) → AllZip IsLine pieces lines → AllZip IsLine (pieces ++ more) all → (back : List Line) × (all ≡ lines ++ back) × AllZip IsLine more back
zip_front [] more [] all h whole = (all, refl, whole)
zip_front [] more (l ∷ lines) all h whole = absurd h
zip_front (p ∷ pieces) more [] all h whole = absurd h
zip_front (p ∷ pieces) more (l ∷ lines) [] h whole = absurd whole
zip_front (p ∷ pieces) more (l ∷ lines) (a ∷ all) h whole =
    let rest = zip_front pieces more lines all h.1 whole.1 in
    let same : a ≡ l = words_say (words_of p) a l whole.0 h.0 in
    (rest.0, ap (λ (x : Line). x ∷ all) same ∙ ap (λ (xs : List Line). l ∷ xs) rest.1, rest.2)

no_pieces : (back : List Line) → AllZip IsLine [] back → back ≡ []
no_pieces [] h = refl
no_pieces (l ∷ back) h = absurd h

-- pieces are the text of one list of lines
pub one_reading : (pieces : List (List ℕ)) (lines others : List Line) → AllZip IsLine pieces lines → AllZip IsLine pieces others → lines ≡ others
one_reading pieces lines others h other =
    let left = zip_front pieces [] lines others h (subst (λ (ps : List (List ℕ)). AllZip IsLine ps others) (sym (append-nil pieces)) other) in
    sym (left.1 ∙ ap (λ (b : List Line). lines ++ b) (no_pieces left.0 left.2) ∙ append-nil lines)

pub zip_length : (pieces : List (List ℕ)) (lines : List Line) → AllZip IsLine pieces lines → length pieces ≡ length lines
zip_length [] [] h = refl
zip_length [] (line ∷ lines) h = absurd h
zip_length (piece ∷ pieces) [] h = absurd h
zip_length (piece ∷ pieces) (line ∷ lines) h = omega (arith, zip_length pieces lines h.1)
