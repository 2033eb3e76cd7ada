-- A write in a list is a value given anew in its table.
use Rattle.std.proofs.Common.{⊎_elim, ◌≡◌, ◌≢◌, ℕ, ◌<◌, List, length, get_or, set, sym, ap, refl, subst, ◌∙◌, zero, suc, [], ◌∷◌, Option, Some, arith, get_or-set_same, get_or-set_other}
use Rattle.std.specs.Prelude.{slice_get}
use Rattle.std.proofs.lemmas.Bool.{cases_eq}
use Rattle.room_core.specs.Put.{put}
use Rattle.room_core.proofs.Puts.{put-same, put-other}

at_place : {A : Type 0} (xs : List A) (i : ℕ) (x none : A) → i < length xs → (j : ℕ) → get_or (set xs i x) j none ≡ put (λ k. get_or xs k none) i x j
at_place xs i x none l j =
    ⊎_elim
    (λ (e : j ≡ i). subst (λ k. get_or (set xs i x) k none ≡ put (λ m. get_or xs m none) i x k) (sym e) (rw get_or-set_same (sym (put-same (λ m. get_or xs m none) i x))))
    (λ (n : j ≢ i). rw get_or-set_other (sym (put-other (λ m. get_or xs m none) i x j n)))
    (cases_eq j i)

pub table_set : {A : Type 0} (xs : List A) (i : ℕ) (x none : A) → i < length xs → (λ j. get_or (set xs i x) j none) ≡ put (λ k. get_or xs k none) i x
table_set xs i x none l = λ d j. at_place xs i x none l j d

pub got_set : {A : Type 0} (xs : List A) (i : ℕ) (x : A) → i < length xs → slice_get (set xs i x) i ≡ Some x
got_set [] i x l = absurd (omega arith)
got_set (y ∷ ys) zero x l = refl
got_set (y ∷ ys) (suc i) x l = got_set ys i x (omega arith)

pub got_other : {A : Type 0} (xs : List A) (i j : ℕ) (x : A) → j ≢ i → slice_get (set xs i x) j ≡ slice_get xs j
got_other [] i j x n = refl
got_other (y ∷ ys) zero zero x n = absurd (n refl)
got_other (y ∷ ys) zero (suc j) x n = refl
got_other (y ∷ ys) (suc i) zero x n = refl
got_other (y ∷ ys) (suc i) (suc j) x n = got_other ys i j x (λ e. n (ap suc e))

part_at : {A B : Type 0} (f : Option A → B) (xs : List A) (i : ℕ) (x : A) → i < length xs → (j : ℕ) → f (slice_get (set xs i x) j) ≡ put (λ k. f (slice_get xs k)) i (f (Some x)) j
part_at f xs i x l j =
    ⊎_elim
    (λ (e : j ≡ i). subst (λ k. f (slice_get (set xs i x) k) ≡ put (λ m. f (slice_get xs m)) i (f (Some x)) k) (sym e) (ap f (got_set xs i x l) ∙ sym (put-same (λ m. f (slice_get xs m)) i (f (Some x)))))
    (λ (n : j ≢ i). ap f (got_other xs i j x n) ∙ sym (put-other (λ m. f (slice_get xs m)) i (f (Some x)) j n))
    (cases_eq j i)

-- a part written in its list is a part given anew in its table
pub part_set : {A B : Type 0} (f : Option A → B) (xs : List A) (i : ℕ) (x : A) → i < length xs → (λ j. f (slice_get (set xs i x) j)) ≡ put (λ k. f (slice_get xs k)) i (f (Some x))
part_set f xs i x l = λ d j. part_at f xs i x l j d

-- a value that is given anew by another spelling
pub put_as : {A : Type 0} (f : ℕ → A) (i : ℕ) (x y : A) → x ≡ y → put f i x ≡ put f i y
put_as f i x y e = ap (put f i) e
