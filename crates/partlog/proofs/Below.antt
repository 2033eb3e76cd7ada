-- The batches wholly below an offset are a front of all, since base offsets rise.
use Rattle.std.proofs.Common.{◌≡◌, ℕ, zero, suc, ◌+◌, ◌-◌, ◌≤◌, ◌<◌, inl, inr, nat_le, List, [], ◌∷◌, ◌++◌, length, take, drop, arith, sym, ap, ◌∙◌, refl}
use Rattle.std.proofs.Math.Seq.{take-take}
use Rattle.std.proofs.lemmas.List.{drop-take}
use Rattle.std.proofs.lemmas.List.Sums.{sum_by-cons}
use Rattle.std.proofs.lemmas.Bool.{cases_lt}
use Rattle.std.proofs.lemmas.Bool.Decides.{nat_tests}
use Rattle.partlog.specs.declared.event.PartEvent.{PartEvent}
use Rattle.partlog.specs.declared.event.PartEvent.TheVariants.{Append, Follow, Look, Shrink}
use Rattle.partlog.specs.Added.{added_bytes, bytes_of, log_end_of}
use Rattle.partlog.specs.Batches.{StoredBatch, batches_after, next_offset}
use Rattle.partlog.specs.Boundary.{IsBoundary}
use Rattle.partlog.specs.Gauges.{bytes_in, batches_below}
use Rattle.partlog.specs.Taken.{batches_past, batches_upto, fitting}
use Rattle.partlog.proofs.Bounds.{sum_by-filter-le}
use Rattle.partlog.proofs.Fronts.{bytes_in-cons, fitting-more, fitting-none, fitting-zero, fitting-front, past-more, past-zero}
use Rattle.partlog.proofs.Rows.{IsFull, IsRising}

module _ (high : ℕ) (b : StoredBatch) (bs : List StoredBatch) where
  pub below-more : next_offset b ≤ high → batches_below high (b ∷ bs) ≡ b ∷ batches_below high bs
  below-more le = grind (arith, nat_tests)

  below-less : high < next_offset b → batches_below high (b ∷ bs) ≡ batches_below high bs
  below-less lt = grind (arith, nat_tests)

below-none : (high base : ℕ) (bs : List StoredBatch) → IsRising base bs → high ≤ base → batches_below high bs ≡ []
below-none high base [] rising le = refl
below-none high base (b ∷ bs) rising le =
    let at = rising.0 in
    let some = rising.1 in
    below-less high b bs (omega arith) ∙ below-none high (next_offset b) bs rising.2 (omega arith)

pub below-first : (high base : ℕ) (b : StoredBatch) (bs : List StoredBatch) → IsRising base (b ∷ bs) → high < next_offset b → batches_below high (b ∷ bs) ≡ []
below-first high base b bs rising above = below-less high b bs above ∙ below-none high (next_offset b) bs rising.2 (omega arith)

-- so they are those that fit into their bytes
pub below-fitting : (high base : ℕ) (bs : List StoredBatch) → IsFull bs → IsRising base bs → batches_upto (bytes_in (batches_below high bs)) bs ≡ batches_below high bs
below-fitting high base [] full rising = refl
below-fitting high base (b ∷ bs) full rising = elim (cases_lt high (next_offset b)) [
  | inl above ↦
      let none = below-first high base b bs rising above in
      ap (λ l. fitting (bytes_in l) (b ∷ bs)) none ∙ fitting-none b bs 0 full.0 ∙ sym none
  | inr below ↦
      let more = below-more high b bs below in
      let size = bytes_in-cons b (batches_below high bs) in
      let rest : (length b.bytes + bytes_in (batches_below high bs)) - length b.bytes ≡ bytes_in (batches_below high bs) = omega arith in
      ap (λ l. fitting (bytes_in l) (b ∷ bs)) more ∙ ap (λ n. fitting n (b ∷ bs)) size
      ∙ fitting-more b bs (length b.bytes + bytes_in (batches_below high bs)) (omega arith)
      ∙ ap (λ n. b ∷ fitting n bs) rest ∙ ap (λ l. b ∷ l) (below-fitting high (next_offset b) bs full.1 rising.2) ∙ sym more
]

-- also from a place on
pub past-below : (start high base : ℕ) (bs : List StoredBatch) → IsRising base bs → batches_past start (batches_below high bs) ≡ batches_below high (batches_past start bs)
past-below start high base [] rising = refl
past-below zero high base (b ∷ bs) rising = past-zero (batches_below high (b ∷ bs))
past-below (suc start) high base (b ∷ bs) rising =
    let len : ℕ = length b.bytes in
    let next = past-below (suc start - len) high (next_offset b) bs rising.2 in
    let same = ap (λ l. batches_below high l) (sym (past-more b bs (suc start) (omega arith))) in
    elim (cases_lt high (next_offset b)) [
      | inl above ↦
          ap (λ l. batches_past (suc start) l) (below-first high base b bs rising above)
          ∙ ap (λ l. batches_past (suc start - len) l) (sym (below-none high (next_offset b) bs rising.2 (omega arith))) ∙ next ∙ same
      | inr below ↦
          ap (λ l. batches_past (suc start) l) (below-more high b bs below)
          ∙ past-more b (batches_below high bs) (suc start) (omega arith) ∙ next ∙ same
    ]

-- and their bytes end at a boundary
pub below-boundary : (high base : ℕ) (bs : List StoredBatch) → IsFull bs → IsRising base bs → IsBoundary (bytes_in (batches_below high bs)) bs
below-boundary high base bs full rising =
    let front = fitting-front (bytes_in (batches_below high bs)) bs in
    (front.0, ap bytes_in (sym (below-fitting high base bs full rising) ∙ front.1))

pub upto-all : (bs : List StoredBatch) → batches_upto (bytes_in bs) bs ≡ bs
upto-all [] = refl
upto-all (b ∷ bs) =
    let rest : (length b.bytes + bytes_in bs) - length b.bytes ≡ bytes_in bs = omega arith in
    ap (λ n. fitting n (b ∷ bs)) (bytes_in-cons b bs)
    ∙ fitting-more b bs (length b.bytes + bytes_in bs) (omega arith)
    ∙ ap (λ n. b ∷ fitting n bs) rest ∙ ap (λ l. b ∷ l) (upto-all bs)

full-front : (xs ys : List StoredBatch) → IsFull (xs ++ ys) → IsFull xs
full-front [] ys full = tt
full-front (x ∷ xs) ys full = (full.0, full-front xs ys full.1)

full-back : (xs ys : List StoredBatch) → IsFull (xs ++ ys) → IsFull ys
full-back [] ys full = full
full-back (x ∷ xs) ys full = full-back xs ys full.1

-- what comes later is not read
upto-front : (n : ℕ) (xs ys : List StoredBatch) → IsFull ys → n ≤ bytes_in xs → batches_upto n (xs ++ ys) ≡ batches_upto n xs
upto-front n [] ys full within =
    let none : n ≡ 0 = omega (arith, within) in
    ap (λ k. fitting k ys) none ∙ fitting-zero ys full
upto-front n (x ∷ xs) ys full within = elim (cases_lt n (length x.bytes)) [
  | inl short ↦ fitting-none x (xs ++ ys) n short ∙ sym (fitting-none x xs n short)
  | inr fits ↦
      fitting-more x (xs ++ ys) n fits
      ∙ ap (λ l. x ∷ l) (upto-front (n - length x.bytes) xs ys full (omega (arith, within, bytes_in-cons x xs)))
      ∙ sym (fitting-more x xs n fits)
]

module _ (xs ys : List StoredBatch) (full : IsFull (xs ++ ys)) where
  pub upto-below : (start high base : ℕ) → IsRising base xs → batches_past start (batches_upto (bytes_in (batches_below high xs)) (xs ++ ys)) ≡ batches_below high (batches_past start xs)
  upto-below start high base rising =
      let within : bytes_in (batches_below high xs) ≤ bytes_in xs = sum_by-filter-le (λ b. length b.bytes) (λ b. nat_le (next_offset b) high) xs in
      ap (λ l. batches_past start l) (upto-front (bytes_in (batches_below high xs)) xs ys (full-back xs ys full) within ∙ below-fitting high base xs (full-front xs ys full) rising)
      ∙ past-below start high base xs rising

  pub upto-whole : batches_upto (bytes_in xs) (xs ++ ys) ≡ xs
  upto-whole = upto-front (bytes_in xs) xs ys (full-back xs ys full) (omega arith) ∙ upto-all xs

-- the batches of entries need no more of the log than their own bytes
pub batches-take : (n : ℕ) (before es : List PartEvent) (log : List ℕ) → bytes_of es ≤ n → batches_after before es (take n log) ≡ batches_after before es log
batches-take n before [] log fits = refl
batches-take n before (Append by seq count len ∷ es) log fits =
    let e : PartEvent = Append by seq count len in
    let total = sum_by-cons added_bytes e es in
    let parts : n ≡ len + (n - len) = omega (arith, fits, total) in
    let rest : drop len (take n log) ≡ take (n - len) (drop len log) = ap (λ k. drop len (take k log)) parts ∙ drop-take len (n - len) log in
    ap (λ l. record { base = log_end_of before; count = count; bytes = l } ∷ batches_after (before ++ e ∷ []) es (drop len (take n log))) (take-take len n log (omega (arith, fits, total)))
    ∙ ap (λ l. record { base = log_end_of before; count = count; bytes = take len log } ∷ l) (ap (λ l. batches_after (before ++ e ∷ []) es l) rest ∙ batches-take (n - len) (before ++ e ∷ []) es (drop len log) (omega (arith, fits, total)))
batches-take n before (Follow by seq replica offset t ∷ es) log fits =
    let e : PartEvent = Follow by seq replica offset t in
    batches-take n (before ++ e ∷ []) es log (omega (arith, fits, sum_by-cons added_bytes e es))
batches-take n before (Look by seq ∷ es) log fits =
    let e : PartEvent = Look by seq in
    batches-take n (before ++ e ∷ []) es log (omega (arith, fits, sum_by-cons added_bytes e es))
batches-take n before (Shrink by replica t ∷ es) log fits =
    let e : PartEvent = Shrink by replica t in
    batches-take n (before ++ e ∷ []) es log (omega (arith, fits, sum_by-cons added_bytes e es))
