-- The whole lines of a text, and the one that has begun.
use Rattle.std.proofs.Common.{◌≡◌, ◌≢◌, ℕ, suc, ◌+◌, ◌-◌, ◌<◌, ◌≤◌, ◌⊎◌, Bool, false, cond, eqb, List, [], ◌∷◌, ◌++◌, length, take, drop, get_or, refl, sym, ap, subst, ◌∙◌, arith, inl, inr, append_assoc, length-append, length-drop}
use Rattle.std.specs.List.{count_by, slice_split}
use Rattle.std.proofs.lemmas.List.Sums.{sum_by-append, sum_by-cons, count_by-le-length}
use Rattle.std.proofs.lemmas.Bool.{cases_lt, ne_eqb}
use Rattle.std.proofs.lemmas.List.{drop-drop, length-take-le, take-append-le, take_all, take_more, take-append-drop, get_or-drop}
use Rattle.std.proofs.lemmas.List.Splits.{length-slice_split}
use Rattle.trace_file.specs.declared.line.TheConstants.{MOST_TRACE_BYTES}
use Rattle.trace_file.specs.declared.trace_reader.TraceReader.{TraceReader}
use Rattle.trace_file.specs.TextRead.{EndsLine, EndsWithFeed, HasTaken, IsCut, IsLong, IsShort, feeds_in}
use Rattle.trace_file.specs.Trace.{pieces_of}
use Rattle.trace_file.proofs.Sharing.{pieces_fed, pieces_seam}

feeds_append : (xs ys : List ℕ) → feeds_in (xs ++ ys) ≡ feeds_in xs + feeds_in ys
feeds_append xs ys = sum_by-append _ xs ys

-- a line that is ended
ends_fed : (line : List ℕ) → EndsLine (line ++ 10 ∷ [])
ends_fed line behind = ap pieces_of (append_assoc line (10 ∷ []) behind) ∙ pieces_seam line behind

lines_fed : (line : List ℕ) → length (pieces_of (line ++ 10 ∷ [])) ≡ feeds_in (line ++ 10 ∷ [])
lines_fed line =
    let parts = pieces_fed line [] in
    omega (arith, ap length parts, length-append (slice_split (λ c. eqb c 10) line) [], length-slice_split (λ c. eqb c 10) line, feeds_append line (10 ∷ []))

pub ends_line : (text : List ℕ) → EndsWithFeed text → EndsLine text
ends_line text h = subst EndsLine (sym h.1) (ends_fed h.0)

lines_of_ended : (text : List ℕ) → EndsWithFeed text → length (pieces_of text) ≡ feeds_in text
lines_of_ended text h = subst (λ (t : List ℕ). length (pieces_of t) ≡ feeds_in t) (sym h.1) (lines_fed h.0)

-- ---- whole lines

-- these are whole lines
record AreWhole (text : List ℕ) : Type 0 where
  pub ends : EndsLine text
  pub lines : length (pieces_of text) ≡ feeds_in text

whole_none : AreWhole []
whole_none = record { ends = λ behind. refl; lines = refl }

whole_ended : (text : List ℕ) → EndsWithFeed text → AreWhole text
whole_ended text h = record { ends = ends_line text h; lines = lines_of_ended text h }

whole_or_none : (text : List ℕ) → (text ≡ []) ⊎ EndsWithFeed text → AreWhole text
whole_or_none text (inl none) = subst AreWhole (sym none) whole_none
whole_or_none text (inr ended) = whole_ended text ended

whole_more : (front more : List ℕ) → AreWhole front → AreWhole more → AreWhole (front ++ more)
whole_more front more a b = record {
  ends = λ behind.
      ap pieces_of (append_assoc front more behind) ∙ a.ends (more ++ behind) ∙ ap (λ (ps : List (List ℕ)). pieces_of front ++ ps) (b.ends behind)
      ∙ sym (append_assoc (pieces_of front) (pieces_of more) (pieces_of behind)) ∙ ap (λ (ps : List (List ℕ)). ps ++ pieces_of behind) (sym (a.ends more));
  lines = omega (arith, ap length (a.ends more), length-append (pieces_of front) (pieces_of more), a.lines, b.lines, feeds_append front more);
}

-- ---- a text that comes in parts

pub cut_none : IsCut [] [] []
cut_none = record { whole = refl; ends = λ behind. refl; lines = refl; open_line = refl }

-- no line ends in the part
pub cut_open : (text front begun part : List ℕ) → IsCut text front begun → feeds_in part ≡ 0 → IsCut (text ++ part) front (begun ++ part)
cut_open text front begun part h none = record {
  whole = ap (λ (t : List ℕ). t ++ part) h.whole ∙ append_assoc front begun part;
  ends = h.ends;
  lines = h.lines;
  open_line = omega (arith, feeds_append begun part, h.open_line, none);
}

-- the line that has begun ends in the part, and more lines
abbrev pub front_read : List ℕ → List ℕ → List ℕ → List ℕ → List ℕ
front_read front begun first lines = (front ++ (begun ++ first)) ++ lines

line_ended : (begun first : List ℕ) → EndsWithFeed first → EndsWithFeed (begun ++ first)
line_ended begun first h = (begun ++ h.0, ap (λ (t : List ℕ). begun ++ t) h.1 ∙ sym (append_assoc begun h.0 (10 ∷ [])))

pub cut_read : (text front begun part first lines rest : List ℕ) → IsCut text front begun → part ≡ first ++ (lines ++ rest) → EndsWithFeed first → (lines ≡ []) ⊎ EndsWithFeed lines
    → feeds_in rest ≡ 0 → IsCut (text ++ part) (front_read front begun first lines) rest
cut_read text front begun part first lines rest h whole ended more none =
    let line = whole_ended (begun ++ first) (line_ended begun first ended) in
    let all = whole_more (front ++ (begun ++ first)) lines (whole_more front (begun ++ first) (record { ends = h.ends; lines = h.lines }) line) (whole_or_none lines more) in record {
      whole = ap (λ (t : List ℕ). t ++ part) h.whole ∙ ap (λ (p : List ℕ). (front ++ begun) ++ p) whole ∙ append_assoc front begun (first ++ (lines ++ rest))
          ∙ ap (λ (t : List ℕ). front ++ t) (sym (append_assoc begun first (lines ++ rest))) ∙ sym (append_assoc front (begun ++ first) (lines ++ rest))
          ∙ sym (append_assoc (front ++ (begun ++ first)) lines rest);
      ends = all.ends;
      lines = all.lines;
      open_line = none;
    }

-- the pieces that were read then
pub pieces_read : (text front begun first lines : List ℕ) → IsCut text front begun → EndsWithFeed first
    → (pieces_of front ++ pieces_of (begun ++ first)) ++ pieces_of lines ≡ pieces_of (front_read front begun first lines)
pieces_read text front begun first lines h ended =
    let line = whole_ended (begun ++ first) (line_ended begun first ended) in
    let both = whole_more front (begun ++ first) (record { ends = h.ends; lines = h.lines }) line in
    ap (λ (ps : List (List ℕ)). ps ++ pieces_of lines) (sym (h.ends (begun ++ first))) ∙ sym (both.ends lines)

-- as many lines are whole as line feeds came
pub lines_whole : (text front begun : List ℕ) → IsCut text front begun → length (pieces_of front) ≡ feeds_in text
lines_whole text front begun h = omega (arith, h.lines, h.open_line, feeds_append front begun, ap feeds_in h.whole)

-- the pieces of all, where no more comes
pub pieces_all : (text front begun : List ℕ) → IsCut text front begun → pieces_of front ++ pieces_of begun ≡ pieces_of text
pieces_all text front begun h = sym (h.ends begun) ∙ ap pieces_of (sym h.whole)

pub feeds_more : (text part : List ℕ) → feeds_in (text ++ part) ≡ feeds_in text + feeds_in part
feeds_more text part = feeds_append text part

-- ---- the line feeds of a part

count_no : (p : ℕ → Bool) (x : ℕ) (xs : List ℕ) → p x ≡ false → count_by p (x ∷ xs) ≡ count_by p xs
count_no p x xs fails =
    let first : ◌≡◌ {A = ℕ} (cond (p x) 1 0) 0 = ap (λ (b : Bool). cond b 1 0) fails in
    omega (arith, sum_by-cons (λ (y : ℕ). cond (p y) 1 0) x xs, first)

pub feeds_none : (text : List ℕ) → ((k : ℕ) → k < length text → get_or text k 0 ≢ 10) → feeds_in text ≡ 0
feeds_none [] none = refl
feeds_none (x ∷ text) none =
    let here : eqb x 10 ≡ false = ne_eqb x 10 (none 0 (omega arith)) in
    let rest = feeds_none text (λ k lt. none (suc k) (omega (arith, lt))) in
    omega (arith, count_no (λ c. eqb c 10) x text here, rest)

-- a text is ended at a line feed
ended_at : (text : List ℕ) (i : ℕ) → i < length text → get_or text i 0 ≡ 10 → EndsWithFeed (take (i + 1) text)
ended_at text i lt here = (take i text, take_more text i 0 lt ∙ ap (λ (c : ℕ). take i text ++ c ∷ []) here)

pub first_cut : (text : List ℕ) (first : ℕ) → first < length text → get_or text first 0 ≡ 10 → EndsWithFeed (take (first + 1) text)
first_cut text first lt here = ended_at text first lt here

pub lines_cut : (text : List ℕ) (first last : ℕ) → first ≤ last → last < length text → get_or text last 0 ≡ 10
    → (take ((last + 1) - (first + 1)) (drop (first + 1) text) ≡ []) ⊎ EndsWithFeed (take ((last + 1) - (first + 1)) (drop (first + 1) text))
lines_cut text first last le lt here =
    elim (cases_lt first last) [
      | inl less ↦
          let at = last - (first + 1) in
          let many : (last + 1) - (first + 1) ≡ at + 1 = omega (arith, less) in
          let place : (first + 1) + at ≡ last = omega (arith, less) in
          inr (subst (λ (n : ℕ). EndsWithFeed (take n (drop (first + 1) text))) (sym many)
          (ended_at (drop (first + 1) text) at (omega (arith, less, lt, length-drop (first + 1) text)) (get_or-drop (first + 1) text at 0 ∙ ap (λ (k : ℕ). get_or text k 0) place ∙ here)))
      | inr same ↦
          let none : (last + 1) - (first + 1) ≡ 0 = omega (arith, same) in
          inl (ap (λ (n : ℕ). take n (drop (first + 1) text)) none)
    ]

pub begun_cut : (text : List ℕ) (last : ℕ) → ((k : ℕ) → last + 1 ≤ k → k < length text → get_or text k 0 ≢ 10) → feeds_in (take (length text - (last + 1)) (drop (last + 1) text)) ≡ 0
begun_cut text last none =
    let rest : take (length text - (last + 1)) (drop (last + 1) text) ≡ drop (last + 1) text = take_all (length text - (last + 1)) (drop (last + 1) text) (omega (arith, length-drop (last + 1) text)) in
    ap feeds_in rest ∙ feeds_none (drop (last + 1) text) (λ k lt is. none ((last + 1) + k) (omega arith) (omega (arith, lt, length-drop (last + 1) text)) (sym (get_or-drop (last + 1) text k 0) ∙ is))

pub whole_cut : (text : List ℕ) (first last : ℕ) → first ≤ last → last < length text
    → text ≡ take (first + 1) text ++ (take ((last + 1) - (first + 1)) (drop (first + 1) text) ++ take (length text - (last + 1)) (drop (last + 1) text))
whole_cut text first last le lt =
    let many = (last + 1) - (first + 1) in
    let behind = drop (first + 1) text in
    let rest : take (length text - (last + 1)) (drop (last + 1) text) ≡ drop (last + 1) text = take_all (length text - (last + 1)) (drop (last + 1) text) (omega (arith, length-drop (last + 1) text)) in
    let place : (first + 1) + many ≡ last + 1 = omega (arith, le) in
    let after : drop many behind ≡ drop (last + 1) text = drop-drop many (first + 1) text ∙ ap (λ (n : ℕ). drop n text) place in
    let cut : take many behind ++ take (length text - (last + 1)) (drop (last + 1) text) ≡ behind =
    ap (λ (t : List ℕ). take many behind ++ t) (rest ∙ sym after) ∙ take-append-drop many behind in
    sym (take-append-drop (first + 1) text) ∙ ap (λ (t : List ℕ). take (first + 1) text ++ t) (sym cut)

-- ---- what a reader has taken

pub long_taken : (only_topics : Bool) (text : List ℕ) (reader : TraceReader) → MOST_TRACE_BYTES < reader.length → HasTaken only_topics text reader → IsLong text reader
long_taken only_topics text reader gt (inl short) = absurd (omega (arith, short.length_is, short.size, gt))
long_taken only_topics text reader gt (inr long) = long

pub short_taken : (only_topics : Bool) (text : List ℕ) (reader : TraceReader) → reader.length ≤ MOST_TRACE_BYTES → HasTaken only_topics text reader → IsShort only_topics text reader
short_taken only_topics text reader le (inl short) = short
short_taken only_topics text reader le (inr long) = absurd (omega (arith, long.length_is, le))

pub few_feeds : (text : List ℕ) → feeds_in text ≤ length text
few_feeds text = count_by-le-length (λ c. eqb c 10) text

pub few_first : (text : List ℕ) → MOST_TRACE_BYTES < length text → feeds_in (take MOST_TRACE_BYTES text) ≤ MOST_TRACE_BYTES
few_first text long = omega (arith, few_feeds (take MOST_TRACE_BYTES text), length-take-le MOST_TRACE_BYTES text (omega (arith, long)))

pub long_more : (text part : List ℕ) (reader : TraceReader) → IsLong text reader → IsLong (text ++ part) reader
long_more text part reader h = record {
  size = omega (arith, h.size, length-append text part);
  length_is = h.length_is;
  counted = h.counted ∙ ap feeds_in (sym (take-append-le MOST_TRACE_BYTES text part (omega (arith, h.size))));
}

take_past : (xs ys : List ℕ) (n : ℕ) → take (length xs + n) (xs ++ ys) ≡ xs ++ take n ys
take_past [] ys n = ap (λ (m : ℕ). take m ys) (omega arith)
take_past (x ∷ xs) ys n = let one : length (x ∷ xs) + n ≡ suc (length xs + n) = omega arith in ap (λ (m : ℕ). take m (x ∷ (xs ++ ys))) one ∙ ap (λ (zs : List ℕ). x ∷ zs) (take_past xs ys n)

-- the line feeds before the limit, which the part goes past
pub feeds_cut : (text part : List ℕ) (left : ℕ) → length text + left ≡ MOST_TRACE_BYTES → feeds_in text + feeds_in (take left part) ≡ feeds_in (take MOST_TRACE_BYTES (text ++ part))
feeds_cut text part left most =
    let cut : take MOST_TRACE_BYTES (text ++ part) ≡ text ++ take left part = ap (λ (n : ℕ). take n (text ++ part)) (sym most) ∙ take_past text part left in
    sym (ap feeds_in cut ∙ feeds_append text (take left part))
