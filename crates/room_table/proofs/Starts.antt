-- The table at its start keeps the rule.
use Rattle.std.proofs.Common.{◌≡◌, ◌≢◌, ℕ, zero, suc, ◌+◌, ◌-◌, ◌<◌, ◌≤◌, List, [], ◌∷◌, ◌++◌, length, get_or, eqb, sym, refl, ap, ◌∙◌, subst, inl, inr, ⊎_elim, arith}
use Rattle.std.specs.Prelude.{All, sum_by, replicate}
use Rattle.std.proofs.lemmas.Bool.{cases_eq, eq-eqb, ne_eqb}
use Rattle.std.proofs.lemmas.List.{get_or-replicate, length-replicate}
use Rattle.std.proofs.lemmas.List.Sums.{sum_by-cons}
use Rattle.std.proofs.lemmas.List.Elements.{All-nil, All-cons, All-append}
use mathlib.Core.Option.{some, some-injective, some-ne-none}
use lib.ListN.{get_elem?}
use Rattle.atomic_table.specs.Table.{opening}
use Rattle.room_core.specs.declared.parts.Phase.{Phase}
use Rattle.room_core.specs.declared.shape.Shape.{Shape}
use Rattle.room_core.specs.declared.word.Word.{Word}
use Rattle.room_core.specs.Gauges.{IsShape}
use Rattle.room_core.specs.Packing.{packed}
use Rattle.room_core.specs.Start.{start_of}
use Rattle.room_core.specs.Words.{IsWord, word_at}
use Rattle.room_core.proofs.Laws.{start_carried}
use Rattle.room_table.specs.declared.part.Part.{Part}
use Rattle.room_table.specs.Fresh.{sources_from, callers_from, scanners_from, last_part, all_scanners, all_callers, all_parts}
use Rattle.room_table.specs.Layout.{place_of, size_of}
use Rattle.room_table.proofs.Places.{place_small}
use Rattle.room_table.specs.Shown.{Shows, number_of, one_if, AreWords, IsShown}

small : (shape : Shape) (w : Word) (i : ℕ) → i ≡ place_of shape w → IsWord shape w → i < size_of shape
small shape w i e is = omega (arith, e, place_small shape w is)

no_session : packed (record { generation = 0; phase = Phase.Idle }) ≡ 0
unfolding packed
no_session = refl

no_word : (shape : Shape) (w : Word) → word_at (start_of shape) w ≡ 0
no_word shape (Word.Value g) = refl
no_word shape (Word.Asked g) = refl
no_word shape (Word.Begun g) = refl
no_word shape (Word.Session p) = no_session
no_word shape (Word.Description p at) = refl
no_word shape (Word.Mark p at) = refl

words_start : (shape : Shape) (row : List ℕ) → row ≡ replicate (size_of shape) 0 → AreWords (start_of shape) row
words_start shape row is = record {
  size = ap length is ∙ length-replicate (size_of shape) 0;
  each = λ w there. ap (λ xs. get_or xs (place_of shape w) 0) is ∙ get_or-replicate (size_of shape) (place_of shape w) 0 0 (small shape w (place_of shape w) refl there) ∙ sym (no_word shape w);
}

sources_show : (shape : Shape) (first n : ℕ) → first + n ≤ shape.gauges → All (Shows (start_of shape)) (sources_from shape first n)
sources_show shape first zero l = All-nil (Shows (start_of shape))
sources_show shape first (suc n) l =
    All-cons (Shows (start_of shape)) (Part.Source shape first []) (sources_from shape (first + 1) n) (refl, omega arith, refl) (sources_show shape (first + 1) n (omega arith))

callers_show : (shape : Shape) (first n : ℕ) → first + n ≤ shape.passes → All (Shows (start_of shape)) (callers_from shape first n)
callers_show shape first zero l = All-nil (Shows (start_of shape))
callers_show shape first (suc n) l =
    All-cons (Shows (start_of shape)) (Part.Caller shape first []) (callers_from shape (first + 1) n) (refl, omega arith, refl) (callers_show shape (first + 1) n (omega arith))

scanners_show : (shape : Shape) (first n : ℕ) → first + n ≤ shape.scanners - 1 → All (Shows (start_of shape)) (scanners_from shape first n)
scanners_show shape first zero l = All-nil (Shows (start_of shape))
scanners_show shape first (suc n) l =
    All-cons (Shows (start_of shape)) (Part.Scanner shape first []) (scanners_from shape (first + 1) n) (refl, inl (omega arith), refl) (scanners_show shape (first + 1) n (omega arith))

all_show : (shape : Shape) → All (Shows (start_of shape)) (all_parts shape)
all_show shape =
    All-append (Shows (start_of shape)) (sources_from shape 0 shape.gauges) (all_callers shape) (sources_show shape 0 shape.gauges (omega arith))
    (All-append (Shows (start_of shape)) (callers_from shape 0 shape.passes) (all_scanners shape) (callers_show shape 0 shape.passes (omega arith))
    (All-append (Shows (start_of shape)) (scanners_from shape 0 (shape.scanners - 1)) (last_part shape) (scanners_show shape 0 (shape.scanners - 1) (omega arith))
    (All-cons (Shows (start_of shape)) (Part.Scanner shape 16 []) [] (refl, inr refl, refl) (All-nil (Shows (start_of shape))))))

-- the numbers of parts rise
abbrev Rises : ℕ → List Part → Type 0
Rises low [] = Unit {0}
Rises low (part ∷ parts) = (low ≤ number_of part) × Rises (suc (number_of part)) parts

none_below : (n low : ℕ) (parts : List Part) → Rises low parts → n < low → sum_by (λ q. one_if (eqb (number_of q) n)) parts ≡ 0
none_below n low [] r l = refl
none_below n low (part ∷ parts) r l =
    let least = r.0 in
    let no : one_if (eqb (number_of part) n) ≡ 0 = ap one_if (ne_eqb (number_of part) n (λ e. absurd (omega arith))) in
    omega (arith, sum_by-cons (λ q. one_if (eqb (number_of q) n)) part parts, no, none_below n (suc (number_of part)) parts r.1 (omega arith))

once : (n low : ℕ) (parts : List Part) → Rises low parts → sum_by (λ q. one_if (eqb (number_of q) n)) parts ≤ 1
once n low [] r = omega arith
once n low (part ∷ parts) r = ⊎_elim
    (λ (e : number_of part ≡ n).
    let yes : one_if (eqb (number_of part) n) ≡ 1 = ap one_if (eq-eqb (number_of part) n e) in
    omega (arith, sum_by-cons (λ q. one_if (eqb (number_of q) n)) part parts, yes, none_below n (suc (number_of part)) parts r.1 (omega arith)))
    (λ (m : number_of part ≢ n).
    let no : one_if (eqb (number_of part) n) ≡ 0 = ap one_if (ne_eqb (number_of part) n m) in
    omega (arith, sum_by-cons (λ q. one_if (eqb (number_of q) n)) part parts, no, once n (suc (number_of part)) parts r.1))
    (cases_eq (number_of part) n)

lower : (low low' : ℕ) (parts : List Part) → low' ≤ low → Rises low parts → Rises low' parts
lower low low' [] l r = tt
lower low low' (part ∷ parts) l r = let least = r.0 in (omega arith, r.1)

sources_rise : (shape : Shape) (first n : ℕ) (rest : List Part) → Rises (first + n) rest → Rises first (sources_from shape first n ++ rest)
sources_rise shape first zero rest r = lower (first + 0) first rest (omega arith) r
sources_rise shape first (suc n) rest r =
    (omega arith, lower (first + 1) (suc first) (sources_from shape (first + 1) n ++ rest) (omega arith) (sources_rise shape (first + 1) n rest (lower (first + suc n) (first + 1 + n) rest (omega arith) r)))

callers_rise : (shape : Shape) (first n : ℕ) (rest : List Part) → Rises (shape.gauges + (first + n)) rest → Rises (shape.gauges + first) (callers_from shape first n ++ rest)
callers_rise shape first zero rest r = lower (shape.gauges + (first + 0)) (shape.gauges + first) rest (omega arith) r
callers_rise shape first (suc n) rest r = (
  omega arith,
  lower (shape.gauges + (first + 1)) (suc (shape.gauges + first)) (callers_from shape (first + 1) n ++ rest) (omega arith)
      (callers_rise shape (first + 1) n rest (lower (shape.gauges + (first + suc n)) (shape.gauges + (first + 1 + n)) rest (omega arith) r)),
)

scanners_rise : (shape : Shape) (first n : ℕ) (rest : List Part) → Rises (shape.gauges + shape.passes + (first + n)) rest → Rises (shape.gauges + shape.passes + first) (scanners_from shape first n ++ rest)
scanners_rise shape first zero rest r = lower (shape.gauges + shape.passes + (first + 0)) (shape.gauges + shape.passes + first) rest (omega arith) r
scanners_rise shape first (suc n) rest r = (
  omega arith,
  lower (shape.gauges + shape.passes + (first + 1)) (suc (shape.gauges + shape.passes + first)) (scanners_from shape (first + 1) n ++ rest) (omega arith)
      (scanners_rise shape (first + 1) n rest (lower (shape.gauges + shape.passes + (first + suc n)) (shape.gauges + shape.passes + (first + 1 + n)) rest (omega arith) r)),
)

all_rise : (shape : Shape) → IsShape shape → Rises 0 (all_parts shape)
all_rise shape h =
    let few = h.few_scanners in
    sources_rise shape 0 shape.gauges (all_callers shape) (lower (shape.gauges + 0) (0 + shape.gauges) (all_callers shape) (omega arith)
    (callers_rise shape 0 shape.passes (all_scanners shape) (lower (shape.gauges + shape.passes + 0) (shape.gauges + (0 + shape.passes)) (all_scanners shape) (omega arith)
    (scanners_rise shape 0 (shape.scanners - 1) (last_part shape) (omega arith, tt)))))

one_view : (shape : Shape) (i : ℕ) (view : List Part) → get_elem? (all_parts shape ∷ []) i ≡ some view → all_parts shape ≡ view
one_view shape zero view e = some-injective (all_parts shape) view e
one_view shape (suc i) view e = absurd (some-ne-none view (sym e))

pub starts : (shape : Shape) (row : List ℕ) → IsShape shape → row ≡ replicate (size_of shape) 0 → IsShown shape (opening row [] (all_parts shape))
starts shape row h is = record {
  state = start_of shape;
  shape = refl;
  carried = start_carried shape h;
  words = words_start shape row is;
  parts = λ i view e. subst (All (Shows (start_of shape))) (one_view shape i view e) (all_show shape);
  once = λ number. omega (arith, sum_by-cons (sum_by (λ q. one_if (eqb (number_of q) number))) (all_parts shape) [], once number 0 (all_parts shape) (all_rise shape h));
}
