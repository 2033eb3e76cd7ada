-- Tables with one value given anew, and lists that mirror them.
use Rattle.std.proofs.Common.{⊎_elim, ◌≡◌, ◌≢◌, ◌∙◌, ℕ, ◌<◌, List, Option, Some, None, length, get_or, set, ap, refl, subst, sym}
use Rattle.std.specs.Prelude.{IsSome, unwrap_or}
use Rattle.std.proofs.lemmas.Bool.{cases_eq}
use Rattle.std.proofs.lemmas.List.{get_or-set_same, get_or-set_other}
use Rattle.room_core.specs.Put.{put}
use Rattle.room_core.specs.Readings.{read_only, unread}
use Rattle.room_core.proofs.Laws.{put_else, put_here}
use Rattle.purgatory.specs.scans.Inspected.{Mirrors}

-- the value that is there
abbrev value_or : ℕ → Option ℕ → ℕ
value_or n None = n
value_or n (Some m) = m

pub same_some : (a b : ℕ) → Some a ≡ Some b → a ≡ b
same_some a b e = ap (value_or 0) e

pub mirrors_none : (kept : List ℕ) → Mirrors unread kept
mirrors_none kept i value e = absurd (cc)

-- one more is known, and stands in its place
pub mirrors_more : (known : ℕ → Option ℕ) (kept : List ℕ) (at value : ℕ) → at < length kept → Mirrors known kept → Mirrors (put known at (Some value)) (set kept at value)
mirrors_more known kept at value less m i other e =
    ⊎_elim
    (λ (here : i ≡ at).
    ap (λ j. get_or (set kept at value) j 0) here
    ∙ get_or-set_same kept at value 0 less
    ∙ same_some value other (sym (put_here known at (Some value)) ∙ subst (λ j. put known at (Some value) j ≡ Some other) here e))
    (λ (else_where : i ≢ at).
    get_or-set_other kept at i value 0 else_where ∙ m i other (sym (put_else known at (Some value) i else_where) ∙ e))
    (cases_eq i at)

some_is : (o : Option ℕ) (n : ℕ) → IsSome o → ((value : ℕ) → o ≡ Some value → n ≡ value) → n ≡ unwrap_or o 0
some_is None n there is = absurd (cc)
some_is (Some value) n there is = is value refl

-- what is known is what is read in the mirror
pub mirror_is : (known : ℕ → Option ℕ) (kept : List ℕ) → Mirrors known kept → (i : ℕ) → IsSome (known i) → get_or kept i 0 ≡ read_only known i
mirror_is known kept m i there = some_is (known i) (get_or kept i 0) there (λ value e. m i value e)

-- what was known still is
pub some_more : (known : ℕ → Option ℕ) (at value i : ℕ) → IsSome (known i) → IsSome (put known at (Some value) i)
some_more known at value i there =
    ⊎_elim
    (λ (e : i ≡ at). subst (λ j. IsSome (put known at (Some value) j)) (sym e) (subst (λ o. IsSome o) (sym (put_here known at (Some value))) refl))
    (λ (n : i ≢ at). subst (λ o. IsSome o) (sym (put_else known at (Some value) i n)) there)
    (cases_eq i at)

pub some_here : (known : ℕ → Option ℕ) (at value : ℕ) → IsSome (put known at (Some value) at)
some_here known at value = subst (λ o. IsSome o) (sym (put_here known at (Some value))) refl

pub some_same : {A : Type 0} (a b : A) → Some a ≡ Some b → a ≡ b
some_same a b e = ap (λ o. unwrap_or o a) e
