-- Tables with one value given anew.
use Rattle.std.proofs.Common.{⊎_elim, ◌≡◌, ◌≢◌, ℕ, sym, ap, refl, subst, cond, ◌∙◌}
use Rattle.std.proofs.lemmas.Bool.{eq-eqb, ne_eqb, cases_eq}
use Rattle.room_core.specs.Put.{put}

pub put-same : {A : Type 0} (f : ℕ → A) (i : ℕ) (x : A) → put f i x i ≡ x
unfolding put
put-same f i x = ap (λ b. cond b x (f i)) (eq-eqb i i refl)

pub put-other : {A : Type 0} (f : ℕ → A) (i : ℕ) (x : A) (j : ℕ) → j ≢ i → put f i x j ≡ f j
unfolding put
put-other f i x j n = ap (λ b. cond b x (f j)) (ne_eqb j i n)

-- what holds of the new value at its place, and of the old ones elsewhere
pub at-put : {A : Type 0} (f : ℕ → A) (i : ℕ) (x : A) (P : ℕ → A → Type 0) → P i x → ((j : ℕ) → j ≢ i → P j (f j)) → (j : ℕ) → P j (put f i x j)
at-put f i x P here other j =
    ⊎_elim
    (λ (e : j ≡ i). subst (λ k. P k (put f i x k)) (sym e) (subst (P i) (sym (put-same f i x)) here))
    (λ (n : j ≢ i). subst (P j) (sym (put-other f i x j n)) (other j n))
    (cases_eq j i)

-- two tables with new values at the same place
pub at-puts : {A B : Type 0} (f : ℕ → A) (g : ℕ → B) (i : ℕ) (x : A) (y : B) (P : ℕ → A → B → Type 0) → P i x y → ((j : ℕ) → j ≢ i → P j (f j) (g j)) → (j : ℕ) → P j (put f i x j) (put g i y j)
at-puts f g i x y P here other j =
    ⊎_elim
    (λ (e : j ≡ i).
    subst (λ k. P k (put f i x k) (put g i y k)) (sym e)
    (subst (λ a. P i a (put g i y i)) (sym (put-same f i x)) (subst (P i x) (sym (put-same g i y)) here)))
    (λ (n : j ≢ i).
    subst (λ a. P j a (put g i y j)) (sym (put-other f i x j n)) (subst (P j (f j)) (sym (put-other g i y j n)) (other j n)))
    (cases_eq j i)

-- one value of a table of tables
pub at-place : {A : Type 0} (f : ℕ → ℕ → A) (i p : ℕ) (x : A) (P : ℕ → ℕ → A → Type 0) → P i p x → ((j q : ℕ) → P j q (f j q)) → (j q : ℕ) → P j q (put f i (put (f i) p x) j q)
at-place f i p x P here other =
    at-put f i (put (f i) p x) (λ j row. (q : ℕ) → P j q (row q)) (at-put (f i) p x (P i) here (λ q n. other i q)) (λ j n q. other j q)

pub place-same : {A : Type 0} (f : ℕ → ℕ → A) (i p : ℕ) (x : A) → put f i (put (f i) p x) i p ≡ x
place-same f i p x = ap (λ row. row p) (put-same f i (put (f i) p x)) ∙ put-same (f i) p x
