-- Batches from a place on, up to a place, and as many as fit.
use Rattle.std.proofs.Common.{◌≡◌, ℕ, zero, suc, ◌+◌, ◌-◌, ◌≤◌, ◌<◌, min, inl, inr, Bool, true, false, nat_lt, List, [], ◌∷◌, ◌++◌, length, take, drop, cond, arith, sym, ap, subst, ◌∙◌, refl}
use Rattle.std.proofs.Math.Seq.{take-append-add, drop-append-add, drop-nil}
use Rattle.std.proofs.lemmas.Bool.{cases_lt}
use Rattle.std.proofs.lemmas.Bool.Decides.{nat_tests}
use Rattle.std.proofs.lemmas.List.Sums.{sum_by-cons}
use Rattle.partlog.specs.Batches.{StoredBatch}
use Rattle.partlog.specs.Gauges.{bytes_in}
use Rattle.partlog.specs.Taken.{batches_past, fitting, batches_upto, taken, joined}
use Rattle.partlog.proofs.Rows.{IsFull}

pub bytes_in-cons : (b : StoredBatch) (bs : List StoredBatch) → bytes_in (b ∷ bs) ≡ length b.bytes + bytes_in bs
bytes_in-cons b bs = sum_by-cons (λ b. length b.bytes) b bs

module _ (b : StoredBatch) (bs : List StoredBatch) (n : ℕ) where
  pub fitting-more : length b.bytes ≤ n → fitting n (b ∷ bs) ≡ b ∷ fitting (n - length b.bytes) bs
  fitting-more le = grind (arith, nat_tests)

  pub fitting-none : n < length b.bytes → fitting n (b ∷ bs) ≡ []
  fitting-none lt = grind (arith, nat_tests)

  pub past-more : 0 < n → batches_past n (b ∷ bs) ≡ batches_past (n - length b.bytes) bs
  past-more some = grind (arith, nat_tests)

pub past-zero : (bs : List StoredBatch) → batches_past 0 bs ≡ bs
past-zero [] = refl
past-zero (b ∷ bs) = refl

pub fitting-zero : (bs : List StoredBatch) → IsFull bs → fitting 0 bs ≡ []
fitting-zero [] full = refl
fitting-zero (b ∷ bs) full = fitting-none b bs 0 full.0

pub full-past : (n : ℕ) (bs : List StoredBatch) → IsFull bs → IsFull (batches_past n bs)
full-past n [] full = tt
full-past zero (b ∷ bs) full = full
full-past (suc n) (b ∷ bs) full = subst IsFull (sym (past-more b bs (suc n) (omega arith))) (full-past (suc n - length b.bytes) bs full.1)

-- no more than all is left
pub past-le : (n : ℕ) (bs : List StoredBatch) → bytes_in (batches_past n bs) ≤ bytes_in bs
past-le n [] = omega arith
past-le zero (b ∷ bs) = omega arith
past-le (suc n) (b ∷ bs) = omega (arith, ap bytes_in (past-more b bs (suc n) (omega arith)), past-le (suc n - length b.bytes) bs, bytes_in-cons b bs)

pub fitting-fitting : (m n : ℕ) (bs : List StoredBatch) → fitting m (fitting n bs) ≡ fitting (min m n) bs
fitting-fitting m n [] = refl
fitting-fitting m n (b ∷ bs) = elim (cases_lt n (length b.bytes)) [
  | inl short ↦ ap (λ l. fitting m l) (fitting-none b bs n short) ∙ sym (fitting-none b bs (min m n) (omega arith))
  | inr long ↦ elim (cases_lt m (length b.bytes)) [
    | inl shorter ↦ ap (λ l. fitting m l) (fitting-more b bs n long) ∙ fitting-none b (fitting (n - length b.bytes) bs) m shorter ∙ sym (fitting-none b bs (min m n) (omega arith))
    | inr longer ↦ ap (λ l. fitting m l) (fitting-more b bs n long) ∙ fitting-more b (fitting (n - length b.bytes) bs) m longer ∙ ap (λ l. b ∷ l) (fitting-fitting (m - length b.bytes) (n - length b.bytes) bs ∙ ap (λ k. fitting k bs) (omega arith)) ∙ sym (fitting-more b bs (min m n) (omega arith))
  ]
]

module _ (from start : ℕ) where
  -- what fits up to a place behind the start is what stands before the start, and what fits behind it
  pub fitting-behind : (room : ℕ) (bs : List StoredBatch) → start + bytes_in (batches_past from bs) ≡ bytes_in bs → bytes_in (fitting (start + room) bs) ≡ start + bytes_in (fitting room (batches_past from bs))
  fitting-behind room bs at = behind from start bs at
    where
      behind : (from start : ℕ) (bs : List StoredBatch) → start + bytes_in (batches_past from bs) ≡ bytes_in bs → bytes_in (fitting (start + room) bs) ≡ start + bytes_in (fitting room (batches_past from bs))
      behind from start [] at = omega arith
      behind zero start (b ∷ bs) at =
          let none : start ≡ 0 = omega (arith, at) in
          let here : start + room ≡ room = omega arith in
          ap (λ n. bytes_in (fitting n (b ∷ bs))) here ∙ omega arith
      behind (suc from) start (b ∷ bs) at =
          let len : ℕ = length b.bytes in
          let same = past-more b bs (suc from) (omega arith) in
          let size = bytes_in-cons b bs in
          let bound = past-le (suc from - len) bs in
          let parts = ap bytes_in same in
          let long : len ≤ start = omega arith in
          let next = behind (suc from - len) (start - len) bs (omega arith) in
          let more = ap bytes_in (fitting-more b bs (start + room) (omega arith)) in
          let place : (start + room) - len ≡ (start - len) + room = omega arith in
          let moved = ap (λ n. bytes_in (fitting n bs)) place in
          let sum = bytes_in-cons b (fitting ((start + room) - len) bs) in
          let back = ap (λ l. bytes_in (fitting room l)) same in
          omega arith

-- the batches up to a place, read from an earlier one on, are those that fit between the two
pub past-upto : (from start upto : ℕ) (bs : List StoredBatch) → IsFull bs → start + bytes_in (batches_past from bs) ≡ bytes_in bs → batches_past from (batches_upto upto bs) ≡ fitting (upto - start) (batches_past from bs)
past-upto from start upto [] full at = refl
past-upto zero start upto (b ∷ bs) full at =
    let none : start ≡ 0 = omega (arith, at) in
    let here : upto ≡ upto - start = omega arith in
    past-zero (fitting upto (b ∷ bs)) ∙ ap (λ n. fitting n (b ∷ bs)) here
past-upto (suc from) start upto (b ∷ bs) full at =
    let len : ℕ = length b.bytes in
    let rest : List StoredBatch = batches_past (suc from - len) bs in
    let same : batches_past (suc from) (b ∷ bs) ≡ rest = past-more b bs (suc from) (omega arith) in
    let size = bytes_in-cons b bs in
    let bound = past-le (suc from - len) bs in
    let parts = ap bytes_in same in
    let long : len ≤ start = omega arith in
    elim (cases_lt upto len) [
      | inl short ↦
          let none : 0 ≡ upto - start = omega arith in
          ap (λ l. batches_past (suc from) l) (fitting-none b bs upto short) ∙ sym (fitting-zero rest (full-past (suc from - len) bs full.1)) ∙ ap (λ n. fitting n rest) none ∙ ap (λ l. fitting (upto - start) l) (sym same)
      | inr fits ↦
          let room : (upto - len) - (start - len) ≡ upto - start = omega arith in
          ap (λ l. batches_past (suc from) l) (fitting-more b bs upto fits) ∙ past-more b (fitting (upto - len) bs) (suc from) (omega arith) ∙ past-upto (suc from - len) (start - len) (upto - len) bs full.1 (omega arith) ∙ ap (λ n. fitting n rest) room ∙ ap (λ l. fitting (upto - start) l) (sym same)
    ]

-- a place behind the start is in its first batch
pub past-next : (from start : ℕ) (bs : List StoredBatch) → IsFull bs → start + bytes_in (batches_past from bs) ≡ bytes_in bs → batches_past (start + 1) bs ≡ drop 1 (batches_past from bs)
past-next from start [] full at = refl
past-next zero start (b ∷ bs) full at =
    let none : start ≡ 0 = omega (arith, at) in
    let here : (start + 1) - length b.bytes ≡ 0 = omega (arith, full.0) in
    past-more b bs (start + 1) (omega arith) ∙ ap (λ n. batches_past n bs) here ∙ past-zero bs
past-next (suc from) start (b ∷ bs) full at =
    let len : ℕ = length b.bytes in
    let same = past-more b bs (suc from) (omega arith) in
    let size = bytes_in-cons b bs in
    let bound = past-le (suc from - len) bs in
    let parts = ap bytes_in same in
    let long : len ≤ start = omega arith in
    let place : (start + 1) - len ≡ (start - len) + 1 = omega arith in
    past-more b bs (start + 1) (omega arith) ∙ ap (λ n. batches_past n bs) place ∙ past-next (suc from - len) (start - len) bs full.1 (omega arith) ∙ ap (λ l. drop 1 l) (sym same)

-- a front of the batches
abbrev pub IsFront : List StoredBatch → List StoredBatch → Type 0
IsFront xs ys = (k : ℕ) × (xs ≡ take k ys)

pub fitting-front : (n : ℕ) (bs : List StoredBatch) → IsFront (fitting n bs) bs
fitting-front n [] = (0, refl)
fitting-front n (b ∷ bs) = elim (cases_lt n (length b.bytes)) [
  | inl short ↦ (0, fitting-none b bs n short)
  | inr fits ↦
      let rest = fitting-front (n - length b.bytes) bs in
      (suc rest.0, fitting-more b bs n fits ∙ ap (λ l. b ∷ l) rest.1)
]

first-front : (n : ℕ) (bs : List StoredBatch) → IsFront (take 1 (fitting n bs)) bs
first-front n [] = (0, refl)
first-front n (b ∷ bs) = elim (cases_lt n (length b.bytes)) [
  | inl short ↦ (0, ap (λ l. take 1 l) (fitting-none b bs n short))
  | inr fits ↦ (1, ap (λ l. take 1 l) (fitting-more b bs n fits))
]

-- what is taken of the batches up to a place is a front of all
pub taken-front : (limit n : ℕ) (any : Bool) (bs : List StoredBatch) → IsFront (taken limit any (fitting n bs)) bs
taken-front limit n any bs =
    let fit : List StoredBatch = fitting limit (fitting n bs) in
    let front : IsFront fit bs =
    let f = fitting-front (min limit n) bs in
    (f.0, fitting-fitting limit n bs ∙ f.1)
    in
    elim any as (λ a. IsFront (cond a fit (cond (nat_lt 0 (length fit)) fit (take 1 (fitting n bs)))) bs) [
      | true ↦ front
      | false ↦ elim (nat_lt 0 (length fit)) as (λ t. IsFront (cond t fit (take 1 (fitting n bs))) bs) [ true ↦ front | false ↦ first-front n bs ]
    ]

pub full-fitting : (n : ℕ) (bs : List StoredBatch) → IsFull bs → IsFull (fitting n bs)
full-fitting n [] full = tt
full-fitting n (b ∷ bs) full = elim (cases_lt n (length b.bytes)) [
  | inl short ↦ subst IsFull (sym (fitting-none b bs n short)) tt
  | inr fits ↦
      let here : IsFull (b ∷ fitting (n - length b.bytes) bs) = (full.0, full-fitting (n - length b.bytes) bs full.1) in
      subst IsFull (sym (fitting-more b bs n fits)) here
]

none-of-no-bytes : (bs : List StoredBatch) → IsFull bs → bytes_in bs ≡ 0 → bs ≡ []
none-of-no-bytes [] full none = refl
none-of-no-bytes (b ∷ bs) full none = absurd (omega (arith, none, bytes_in-cons b bs, full.0))

some-of-bytes : (bs : List StoredBatch) → 0 < bytes_in bs → nat_lt 0 (length bs) ≡ true
some-of-bytes [] some = absurd (omega (arith, some))
some-of-bytes (b ∷ bs) some = grind (arith, nat_tests)

-- where something fits, it is taken
pub taken-fitting : (limit : ℕ) (any : Bool) (bs : List StoredBatch) → 0 < bytes_in (fitting limit bs) → taken limit any bs ≡ fitting limit bs
taken-fitting limit true bs some = refl
taken-fitting limit false bs some = ap (λ t. cond t (fitting limit bs) (take 1 bs)) (some-of-bytes (fitting limit bs) some)

-- where nothing fits, the first is taken
pub taken-first : (limit : ℕ) (bs : List StoredBatch) → IsFull bs → bytes_in (fitting limit bs) ≡ 0 → taken limit false bs ≡ take 1 bs
taken-first limit bs full none =
    ap (λ l. cond (nat_lt 0 (length l)) l (take 1 bs)) (none-of-no-bytes (fitting limit bs) (full-fitting limit bs full) none)

pub first-fits : (n : ℕ) (bs : List StoredBatch) → bytes_in (take 1 bs) ≤ n → bytes_in (take 1 (fitting n bs)) ≡ bytes_in (take 1 bs)
first-fits n [] fits = refl
first-fits n (b ∷ bs) fits =
    let one = bytes_in-cons b [] in
    ap (λ l. bytes_in (take 1 l)) (fitting-more b bs n (omega arith))

pub first-too-long : (start upto : ℕ) (bs : List StoredBatch) → IsFull bs → upto < start + bytes_in (take 1 bs) → bytes_in (take 1 (fitting (upto - start) bs)) ≡ 0
first-too-long start upto [] full long = refl
first-too-long start upto (b ∷ bs) full long =
    let one = bytes_in-cons b [] in
    let some = full.0 in
    ap (λ l. bytes_in (take 1 l)) (fitting-none b bs (upto - start) (omega arith))

-- the bytes of a front are a front of the bytes
pub joined-front : (k : ℕ) (bs : List StoredBatch) → joined (take k bs) ≡ take (bytes_in (take k bs)) (joined bs)
joined-front zero bs = refl
joined-front (suc k) [] = refl
joined-front (suc k) (b ∷ bs) =
    ap (λ l. b.bytes ++ l) (joined-front k bs) ∙ sym (take-append-add b.bytes (joined bs) (bytes_in (take k bs))) ∙ ap (λ n. take n (b.bytes ++ joined bs)) (sym (bytes_in-cons b (take k bs)))

-- and the bytes from a place on are those behind the bytes before it
pub joined-past : (from start : ℕ) (bs : List StoredBatch) → start + bytes_in (batches_past from bs) ≡ bytes_in bs → joined (batches_past from bs) ≡ drop start (joined bs)
joined-past from start [] at = sym (drop-nil start)
joined-past zero start (b ∷ bs) at =
    let none : 0 ≡ start = omega (arith, at) in
    ap (λ n. drop n (joined (b ∷ bs))) none
joined-past (suc from) start (b ∷ bs) at =
    let len : ℕ = length b.bytes in
    let same = past-more b bs (suc from) (omega arith) in
    let size = bytes_in-cons b bs in
    let bound = past-le (suc from - len) bs in
    let parts = ap bytes_in same in
    let long : len ≤ start = omega arith in
    let place : len + (start - len) ≡ start = omega arith in
    ap joined same ∙ joined-past (suc from - len) (start - len) bs (omega arith) ∙ sym (drop-append-add b.bytes (joined bs) (start - len)) ∙ ap (λ n. drop n (b.bytes ++ joined bs)) place
