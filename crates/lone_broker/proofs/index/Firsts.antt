-- What the first elements of a list name, and one more.
use Rattle.std.proofs.Common.{◌≡◌, ◌≢◌, ℕ, ◌+◌, ◌<◌, ◌↔◌, ◌⊎◌, inl, inr, ⊎_elim, ap, sym, ◌∙◌, arith, List, Contains, length, get_or}
use Rattle.std.proofs.lemmas.Bool.{cases_eq}
use Rattle.std.proofs.lemmas.List.{get_or_default}
use Rattle.opcond.specs.declared.need.Need.{Need}
use Rattle.lone_broker.specs.index.Waiting.{Names}

-- a number is among the first `count`
abbrev pub IsFirst : ℕ → List ℕ → ℕ → Type 0
IsFirst count numbers n = (k : ℕ) × (k < count) × (get_or numbers k 0 ≡ n)

pub first_more : (count : ℕ) (numbers : List ℕ) (n : ℕ) → IsFirst (count + 1) numbers n ↔ (IsFirst count numbers n ⊎ (n ≡ get_or numbers count 0))
first_more count numbers n = (
  (λ (k, l, is).
      ⊎_elim
      (λ (same : k ≡ count). let r : IsFirst count numbers n ⊎ (n ≡ get_or numbers count 0) = inr (sym is ∙ ap (λ i. get_or numbers i 0) same) in r)
      (λ (other : k ≢ count). let r : IsFirst count numbers n ⊎ (n ≡ get_or numbers count 0) = inl (k, omega arith, is) in r)
      (cases_eq k count)),
  (λ (h : IsFirst count numbers n ⊎ (n ≡ get_or numbers count 0)).
      ⊎_elim
      (λ (f : IsFirst count numbers n). let l = f.1 in let r : IsFirst (count + 1) numbers n = (f.0, omega arith, f.2) in r)
      (λ (is : n ≡ get_or numbers count 0). let r : IsFirst (count + 1) numbers n = (count, omega arith, sym is) in r)
      h),
)

pub all_first : (numbers : List ℕ) (n : ℕ) → IsFirst (length numbers) numbers n ↔ Contains numbers n
all_first numbers n = (
  (λ (k, l, is). (k, l, get_or_default numbers k n 0 l ∙ is)),
  (λ (k, l, is). (k, l, get_or_default numbers k 0 n l ∙ is)),
)

-- one of the first `count` needs is of the gauge
abbrev pub NamesFirst : ℕ → List Need → ℕ → Type 0
NamesFirst count needs gauge = (k : ℕ) × (k < count) × ((d : Need) → (get_or needs k d).gauge ≡ gauge)

module _ (needs : List Need) (gauge : ℕ) where
  abbrev gauge_at : ℕ → Need → ℕ
  gauge_at k d = (get_or needs k d).gauge

  pub names_more : (count : ℕ) (d : Need) → count < length needs → NamesFirst (count + 1) needs gauge ↔ (NamesFirst count needs gauge ⊎ (gauge ≡ (get_or needs count d).gauge))
  names_more count d within = (
    (λ (k, l, is).
        ⊎_elim
        (λ (same : k ≡ count). let r : NamesFirst count needs gauge ⊎ (gauge ≡ (get_or needs count d).gauge) = inr (sym (is d) ∙ ap (λ i. gauge_at i d) same) in r)
        (λ (other : k ≢ count). let r : NamesFirst count needs gauge ⊎ (gauge ≡ (get_or needs count d).gauge) = inl (k, omega arith, is) in r)
        (cases_eq k count)),
    (λ (h : NamesFirst count needs gauge ⊎ (gauge ≡ (get_or needs count d).gauge)).
        ⊎_elim
        (λ (f : NamesFirst count needs gauge). let l = f.1 in let r : NamesFirst (count + 1) needs gauge = (f.0, omega arith, f.2) in r)
        (λ (is : gauge ≡ (get_or needs count d).gauge).
        let r : NamesFirst (count + 1) needs gauge = (count, omega arith, λ e. ap (λ (n : Need). n.gauge) (get_or_default needs count e d within) ∙ sym is) in r)
        h),
  )

  pub names_all : NamesFirst (length needs) needs gauge ↔ Names needs gauge
  names_all = (
    (λ (k, l, is).
        let none : Need = record { gauge = 0; start = 0; cap = 0 } in
        let there : Need = get_or needs k none in
        (k, there, l, get_or_default needs k there none l, is none)),
    (λ (k, x, l, there, is). (k, l, λ d. ap (λ (n : Need). n.gauge) (get_or_default needs k d x l ∙ there) ∙ is)),
  )
