-- The tables of the start.
use Rattle.std.proofs.Common.{◌≡◌, ℕ, List, All, get_or, replicate, refl, subst, sym, zero, suc, [], ◌∷◌, Option, Some, None}
use Rattle.std.specs.Prelude.{slice_get}
use Rattle.std.proofs.lemmas.List.Elements.{All-head, All-tail}

none_at : {A : Type 0} (n i : ℕ) (a : A) → get_or (replicate n a) i a ≡ a
none_at zero i a = refl
none_at (suc n) zero a = refl
none_at (suc n) (suc i) a = none_at n i a

empty_at : {A : Type 0} (xs : List A) (n : ℕ) (a : A) → xs ≡ replicate n a → (i : ℕ) → get_or xs i a ≡ a
empty_at xs n a e i = subst (λ ys. get_or ys i a ≡ a) (sym e) (none_at n i a)

-- a list of one value shows that value everywhere
pub empty_table : {A : Type 0} (xs : List A) (n : ℕ) (a : A) → xs ≡ replicate n a → ◌≡◌ {A = ℕ → A} (λ i. get_or xs i a) (λ i. a)
empty_table xs n a e = λ d i. empty_at xs n a e i d

same_at : {A B : Type 0} (f : Option A → B) (b : B) (P : A → Type 0) (xs : List A) → f None ≡ b → ((x : A) → P x → f (Some x) ≡ b) → All P xs → (i : ℕ) → f (slice_get xs i) ≡ b
same_at f b P [] n s h i = n
same_at f b P (x ∷ xs) n s h zero = s x (All-head P x xs h)
same_at f b P (x ∷ xs) n s h (suc i) = same_at f b P xs n s (All-tail P x xs h) i

-- parts that all show one value
pub same_parts : {A B : Type 0} (f : Option A → B) (b : B) (P : A → Type 0) (xs : List A) → f None ≡ b → ((x : A) → P x → f (Some x) ≡ b) → All P xs → ◌≡◌ {A = ℕ → B} (λ i. f (slice_get xs i)) (λ i. b)
same_parts f b P xs n s h = λ d i. same_at f b P xs n s h i d
