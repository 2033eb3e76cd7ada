-- What a refusal tells, in other words.
use Rattle.std.proofs.Common.{◌≡◌, ℕ, ◌+◌, ◌≤◌, Bool, List, [], ◌∷◌, ◌++◌, length, refl, sym, ap, subst, ◌∙◌, inl, inr, true, false, arith, length-append}
use Rattle.std.specs.Prelude.{Option, Some, None, ◌==◌, if◌then◌else◌}
use Rattle.std.specs.List.{slice_split}
use Rattle.std.proofs.lemmas.List.Splits.{length-slice_split}
use Rattle.std.proofs.lemmas.List.Sums.{count_by-le-length}
use Rattle.trace_file.specs.declared.line.Line.{Line}
use Rattle.trace_file.specs.declared.line.LineKind.{LineKind}
use Rattle.trace_file.specs.declared.line.LineKind.TheVariants as kinds
use Rattle.trace_file.specs.declared.line.TheConstants.{MOST_TRACE_BYTES}
use Rattle.trace_file.specs.declared.reading.Reading.{Reading}
use Rattle.trace_file.specs.declared.refusal.Refusal.{Refusal}
use Rattle.trace_file.specs.declared.refusal.Refusal.TheVariants.{Bad, NoMemory}
use Rattle.trace_file.specs.IsLine.{IsLine}
use Rattle.trace_file.specs.Trace.{pieces_of, without_empty_end}
use Rattle.trace_file.specs.LineFaults.{MayStand, IsNewLine, IsLineFault, IsPlaceFault, IsPieceFault}
use Rattle.trace_file.specs.FirstBad.{IsTraceRead, IsFirstBad}
use Rattle.trace_file.specs.Refusals.{Tells}
use Rattle.trace_file.specs.TextRead.{AreUpToBad, HasRead, StopsAt}
use Rattle.trace_file.proofs.Fronts.{begin_ends}
use Rattle.trace_file.proofs.Orders.{no_end_there}
use Rattle.trace_file.proofs.Taking.{front_of}
use Rattle.trace_file.proofs.TextSoFar.{IsReading, zip_length}

pub Tells-weaker : (e : Refusal) (P Q : LineKind → Type 0) → ((kind : LineKind) → P kind → Q kind) → Tells e P → Tells e Q
Tells-weaker (Bad kind) P Q f h = f kind h
Tells-weaker NoMemory P Q f h = tt

pub told_bad : (e : Refusal) (kind : LineKind) (P : LineKind → Type 0) → e ≡ Bad kind → Tells e P → P kind
told_bad e kind P is h = subst (λ (x : Refusal). Tells x P) is h

-- a topic that may not be declared
pub topic_refused : (only_topics : Bool) (before : List Line) (piece : List ℕ) (line : Line) (kind : LineKind) → IsLine piece line → MayStand only_topics before line → ¬ IsNewLine before line
    → kind ≡ kinds.BadTopic → IsPieceFault only_topics before piece kind
topic_refused only_topics before piece line kind h may old is =
    inr (line, h, subst (IsPlaceFault only_topics before line) (sym is) (may, old))

-- a part is read up to a piece that is no line
pub stopped_here : (text rest after piece : List ℕ) (lines : List Line) (kind : LineKind) → IsReading text rest lines → pieces_of rest ≡ piece ∷ pieces_of after → IsLineFault piece kind
    → StopsAt (λ p. IsLineFault p kind) (pieces_of text) lines
stopped_here text rest after piece lines kind h next fault = record {
  before = h.pieces;
  piece = piece;
  after = pieces_of after;
  parts = subst (λ (ps : List (List ℕ)). pieces_of text ≡ h.pieces ++ ps) next h.whole;
  spelled = h.spelled;
  bad = fault;
}

-- ---- what a whole text comes to

-- it has no more lines than bytes, but for one
few_pieces : (parts : List (List ℕ)) → length (without_empty_end parts) ≤ length parts
few_pieces [] = omega arith
few_pieces (part ∷ []) = by_test (length part == 0)
  where
    by_test : (b : Bool) → length (if b then [] else part ∷ []) ≤ 1
    by_test true = omega arith
    by_test false = omega arith
few_pieces (part ∷ next ∷ parts) = let rest = few_pieces (next ∷ parts) in omega (arith, rest)

pub few_lines : (IsBad : List ℕ → LineKind → Type 0) (text : List ℕ) (lines : List Line) (fault : Option LineKind) → AreUpToBad IsBad (pieces_of text) lines fault → length lines ≤ length text + 1
few_lines IsBad text lines fault h =
    let f = front_of IsBad (pieces_of text) lines fault h in
    let parts = slice_split (λ c. c == 10) text in
    omega (
      arith,
      zip_length f.0 lines f.3,
      ap length f.2,
      length-append f.0 f.1,
      few_pieces parts,
      length-slice_split (λ c. c == 10) text,
      count_by-le-length (λ c. c == 10) text,
    )

-- a line is bad
pub bad_here : (text : List ℕ) (only_topics : Bool) (reading : Reading) (line : ℕ) (kind : LineKind) → length text ≤ MOST_TRACE_BYTES → HasRead only_topics (pieces_of text) reading
    → reading.fault ≡ Some kind → line ≡ length reading.lines + 1 → IsFirstBad text only_topics (record { line = line; kind = kind })
bad_here text only_topics reading line kind size h is number =
    let stop : StopsAt (λ piece. IsPieceFault only_topics reading.lines piece kind) (pieces_of text) reading.lines =
    subst (AreUpToBad (IsPieceFault only_topics reading.lines) (pieces_of text) reading.lines) is h.lines in
    inr (inl (record {
      size = size;
      before = stop.before;
      piece = stop.piece;
      after = stop.after;
      parts = stop.parts;
      lines = reading.lines;
      spelled = stop.spelled;
      good = h.read.good;
      line = omega (arith, number, zip_length stop.before reading.lines stop.spelled);
      kind = stop.bad;
    }))

-- none is bad, and the end didn't come
pub open_here : (text : List ℕ) (only_topics : Bool) (reading : Reading) (line : ℕ) → length text ≤ MOST_TRACE_BYTES → HasRead only_topics (pieces_of text) reading → reading.fault ≡ None
    → line ≡ length reading.lines + 1 → reading.order.ended ≡ false → IsFirstBad text only_topics (record { line = line; kind = kinds.NoEnd })
open_here text only_topics reading line size h none number unended =
    inr (inr (record {
      size = size;
      lines = reading.lines;
      spelled = subst (AreUpToBad (IsPieceFault only_topics reading.lines) (pieces_of text) reading.lines) none h.lines;
      good = h.read.good;
      endless = no_end_there reading.lines (sym h.read.sees.ended ∙ unended);
      line = number;
      kind = refl;
    }))

-- none is bad, and the end came
pub trace_here : (text : List ℕ) (only_topics : Bool) (reading : Reading) → length text ≤ MOST_TRACE_BYTES → HasRead only_topics (pieces_of text) reading → reading.fault ≡ None
    → reading.order.ended ≡ true → IsTraceRead text only_topics reading.lines
trace_here text only_topics reading size h none ended = record {
  trace = record {
    size = size;
    spelled = subst (AreUpToBad (IsPieceFault only_topics reading.lines) (pieces_of text) reading.lines) none h.lines;
    order = begin_ends only_topics reading.lines h.read.good (sym h.read.sees.ended ∙ ended);
  };
  declares = h.read.good.declares;
}
