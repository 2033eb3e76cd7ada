-- What a line of a trace may rely on: there is its session, whose input is still open, and its moment is within the limit.
use Rattle.std.proofs.Common.{◌≡◌, ◌∙◌, ℕ, zero, suc, ◌+◌, ◌<◌, ◌≤◌, Bool, true, false, cond, eqb, List, [], ◌∷◌, get_or, length, take, refl, sym, ap, arith, inl, inr}
use Rattle.std.specs.List.{AllPairs, AllZip, onto_first, slice_split}
use Rattle.std.proofs.lemmas.Bool.{cases_Bool, eqb-true, false≢true}
use Rattle.std.proofs.lemmas.List.{get_or_default, get_or-take, length-take-le}
use Rattle.std.proofs.lemmas.List.Folds.{Any-from_list_any}
use Rattle.partlog.specs.declared.clock_event.TheConstants.{MOST_MOMENT}
use Rattle.trace_file.specs.Contents.{is_shut, names, sessions_of, shuts}
use Rattle.trace_file.specs.declared.line.Line.{Line}
use Rattle.trace_file.specs.declared.line.Line.TheVariants.{Topic, Feed, Shut, Clock, End}
use Rattle.trace_file.specs.IsInOrder.{MayFollow}
use Rattle.trace_file.specs.IsLine.{IsLine}
use Rattle.trace_file.specs.declared.line.TheConstants.{MOST_TRACE_BYTES}
use Rattle.trace_file.specs.Trace.{IsTrace, pieces_of, without_empty_end}

no_session : (session n : ℕ) → false ≡ true → session < n
no_session session n e = absurd (false≢true e)

-- only sessions below the count are named
pub named_below : (lines : List Line) (i : ℕ) (d : Line) (session : ℕ) → i < length lines → names session (get_or lines i d) ≡ true → session < sessions_of lines
named_below [] i d session less e = absurd (omega (arith, less))
named_below (Topic name partitions followers least ∷ lines) zero d session less e = absurd (false≢true e)
named_below (Feed s bytes ∷ lines) zero d session less e = omega (arith, eqb-true s session e)
named_below (Shut s ∷ lines) zero d session less e = omega (arith, eqb-true s session e)
named_below (Clock t ∷ lines) zero d session less e = absurd (false≢true e)
named_below (End ∷ lines) zero d session less e = absurd (false≢true e)
named_below (Topic name partitions followers least ∷ lines) (suc i) d session less e = named_below lines i d session (omega (arith, less)) e
named_below (Feed s bytes ∷ lines) (suc i) d session less e = omega (arith, named_below lines i d session (omega (arith, less)) e)
named_below (Shut s ∷ lines) (suc i) d session less e = omega (arith, named_below lines i d session (omega (arith, less)) e)
named_below (Clock t ∷ lines) (suc i) d session less e = named_below lines i d session (omega (arith, less)) e
named_below (End ∷ lines) (suc i) d session less e = named_below lines i d session (omega (arith, less)) e

shut_is : (session : ℕ) (line : Line) → shuts session line ≡ true → line ≡ Shut session
shut_is session (Topic name partitions followers least) e = absurd (false≢true e)
shut_is session (Feed s bytes) e = absurd (false≢true e)
shut_is session (Shut s) e = ap Shut (eqb-true s session e)
shut_is session (Clock t) e = absurd (false≢true e)
shut_is session End e = absurd (false≢true e)

-- a session that is named wasn't closed before
pub open_before : (lines : List Line) (i : ℕ) (d : Line) (session : ℕ) → AllPairs MayFollow lines → i < length lines → names session (get_or lines i d) ≡ true → is_shut session (take i lines) ≡ false
open_before lines i d session order less named =
    elim (cases_Bool (is_shut session (take i lines))) [
      | inl closed ↦
          let a = Any-from_list_any (shuts session) (take i lines) closed in
          let there : a.0 < i = omega (arith, a.2, length-take-le i lines (omega (arith, less))) in
          let at : get_or lines a.0 a.1 ≡ a.1 = sym (get_or-take i lines a.0 a.1 there) ∙ a.3 in
          let is : get_or lines a.0 d ≡ Shut session = get_or_default lines a.0 d a.1 (omega (arith, there, less)) ∙ at ∙ shut_is session a.1 a.4 in
          absurd ((order a.0 i d there less).closed_once session is named)
      | inr none ↦ none
    ]

limit_of : (piece : List ℕ) (line : Line) (t : ℕ) → IsLine piece line → line ≡ Clock t → t ≤ MOST_MOMENT
limit_of piece (Topic name partitions followers least) t h e = absurd cc
limit_of piece (Feed s bytes) t h e = absurd cc
limit_of piece (Shut s) t h e = absurd cc
limit_of piece (Clock u) t h e = let same : u ≡ t = cc in omega (arith, same, h.in_range)
limit_of piece End t h e = absurd cc

-- moments are within the limit
pub within_limit : (pieces : List (List ℕ)) (lines : List Line) (i : ℕ) (d : Line) (t : ℕ) → AllZip IsLine pieces lines → i < length lines → get_or lines i d ≡ Clock t → t ≤ MOST_MOMENT
within_limit pieces [] i d t h less e = absurd (omega (arith, less))
within_limit [] (line ∷ lines) i d t h less e = absurd h
within_limit (piece ∷ pieces) (line ∷ lines) zero d t h less e = limit_of piece line t h.0 e
within_limit (piece ∷ pieces) (line ∷ lines) (suc i) d t h less e = within_limit pieces lines i d t h.1 (omega (arith, less)) e

-- ---- how many lines there are

onto_pieces : (c : ℕ) (parts : List (List ℕ)) → length (onto_first c parts) ≤ 1 + length parts
onto_pieces c [] = omega arith
onto_pieces c (part ∷ parts) = omega arith

few_pieces : (p : ℕ → Bool) (text : List ℕ) → length (slice_split p text) ≤ length text + 1
few_pieces p [] = omega arith
few_pieces p (c ∷ cs) = by_test (p c) (few_pieces p cs)
  where
    by_test : (b : Bool) → length (slice_split p cs) ≤ length cs + 1 → length (cond b ([] ∷ slice_split p cs) (onto_first c (slice_split p cs))) ≤ length (c ∷ cs) + 1
    by_test true behind = omega (arith, behind)
    by_test false behind = omega (arith, behind, onto_pieces c (slice_split p cs))

last_piece : (b : Bool) (piece : List ℕ) → length (cond b [] (piece ∷ [])) ≤ 1
last_piece true piece = omega arith
last_piece false piece = omega arith

end_pieces : (pieces : List (List ℕ)) → length (without_empty_end pieces) ≤ length pieces
end_pieces [] = omega arith
end_pieces (piece ∷ []) = omega (arith, last_piece (eqb (length piece) 0) piece)
end_pieces (piece ∷ next ∷ pieces) = omega (arith, end_pieces (next ∷ pieces))

as_many : (pieces : List (List ℕ)) (lines : List Line) → AllZip IsLine pieces lines → length lines ≡ length pieces
as_many [] [] h = refl
as_many [] (line ∷ lines) h = absurd h
as_many (piece ∷ pieces) [] h = absurd h
as_many (piece ∷ pieces) (line ∷ lines) h = omega (arith, as_many pieces lines h.1)

-- a trace has no more lines than bytes, and one
pub few_lines : (text : List ℕ) (lines : List Line) → IsTrace text lines → length lines ≤ MOST_TRACE_BYTES + 1
few_lines text lines h =
    omega (arith, h.size, as_many (pieces_of text) lines h.spelled, end_pieces (slice_split (λ byte. eqb byte 10) text), few_pieces (λ byte. eqb byte 10) text)
