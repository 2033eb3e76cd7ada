-- The bucket of each entry, and how many entries there are.
use Rattle.std.proofs.Common.{⊎_elim, ◌≡◌, ℕ, ◌+◌, ◌<◌, ◌≤◌, List, Option, Some, None, ◌∷◌, length, get_or, set, map, replicate, is_some, cond, true, zero, suc, sym, ap, ◌∙◌, refl, arith}
use Rattle.std.specs.Option.{IfNone}
use Rattle.std.proofs.Math.Nat.{mul-zero}
use Rattle.std.proofs.lemmas.List.Folds.{sum_by-replicate}
use Rattle.std.proofs.lemmas.List.{get_or-map, get_or_past, length-map}
use Rattle.std.proofs.lemmas.List.Sums.{sum_by-set, count_by-le-length}
use Rattle.std.proofs.lemmas.Bool.{cases_lt}
use Rattle.timing_wheel.specs.declared.timer.Timer.{Timer}
use Rattle.timing_wheel.specs.Timers.{listed}
use Rattle.timing_wheel.specs.Wait.{bucket_of, number_of}
use Rattle.timing_wheel.specs.Place.{place_of}

pub bucket_of-none : bucket_of None ≡ None
unfolding bucket_of
bucket_of-none = refl

pub bucket_of-some : (timer : Timer) → bucket_of (Some timer) ≡ Some (number_of (place_of timer))
unfolding bucket_of
bucket_of-some timer = refl

-- the bucket of an id is that of its entry
pub bucket_at : (slots : List (Option Timer)) (id : ℕ) → get_or (map bucket_of slots) id None ≡ bucket_of (get_or slots id None)
bucket_at slots id =
    ⊎_elim
    (λ (l : id < length slots). get_or-map bucket_of slots id None None l)
    (λ (l : length slots ≤ id).
    get_or_past (map bucket_of slots) id None (rw length-map l)
    ∙ sym (ap bucket_of (get_or_past slots id None l) ∙ bucket_of-none))
    (cases_lt id (length slots))

-- an entry has a bucket
pub bucket_listed : (slot : Option Timer) → is_some slot ≡ true → bucket_of slot ≡ None → ⊥
bucket_listed None e = cc
bucket_listed (Some timer) e = rw (bucket_of-some timer) (λ n. cc)

abbrev one : Option Timer → ℕ
one slot = cond (is_some slot) 1 0

-- an entry takes the place of none
pub listed-put : (slots : List (Option Timer)) (id : ℕ) (timer : Timer) → id < length slots → get_or slots id None ≡ None → listed (set slots id (Some timer)) ≡ listed slots + 1
listed-put slots id timer l free =
    let e : listed (set slots id (Some timer)) + one (get_or slots id None) ≡ listed slots + 1 = sum_by-set one slots id (Some timer) None l in
    let f : one (get_or slots id None) ≡ 0 = ap one free in
    omega arith

-- an entry goes
pub listed-take : (slots : List (Option Timer)) (id : ℕ) → id < length slots → is_some (get_or slots id None) ≡ true → listed (set slots id None) + 1 ≡ listed slots
listed-take slots id l is =
    let e : listed (set slots id None) + one (get_or slots id None) ≡ listed slots + 0 = sum_by-set one slots id None None l in
    let f : one (get_or slots id None) ≡ 1 = ap (λ b. cond b 1 0) is in
    omega arith

pub listed-le : (slots : List (Option Timer)) → listed slots ≤ length slots
listed-le slots = count_by-le-length is_some slots

-- no entries

pub map_none : (n : ℕ) → replicate n None ≡ map bucket_of (replicate n None)
map_none zero = refl
map_none (suc n) = rw bucket_of-none (ap (λ xs. None ∷ xs) (map_none n))

pub listed-none : (n : ℕ) → listed (replicate n None) ≡ 0
listed-none n = sum_by-replicate one n None ∙ mul-zero n

pub IfNone-weaker : {A : Type 0} {P Q : Type 0} (o : Option A) → (P → Q) → IfNone o P → IfNone o Q
IfNone-weaker None f h = f h
IfNone-weaker (Some x) f h = tt
