-- Facts that hold exactly when others do.
use Rattle.std.proofs.Common.{◌↔◌, ◌⊎◌, inl, inr, ⊎_elim, Option, Some, None}
use Rattle.std.specs.Option.{IfNone, IfSome}

-- one step more of a walk that joins what it meets to what was there
pub joined : {Start Mid New More Before After : Type 0} → Mid ↔ (Start ⊎ Before) → New ↔ (Mid ⊎ More) → After ↔ (Before ⊎ More) → New ↔ (Start ⊎ After)
joined {Start} {Mid} {New} {More} {Before} {After} mid new after = (
  (λ (n : New).
      ⊎_elim
      (λ (m : Mid). ⊎_elim (λ (s : Start). let r : Start ⊎ After = inl s in r) (λ (b : Before). let r : Start ⊎ After = inr (after.1 (inl b)) in r) (mid.0 m))
      (λ (more : More). let r : Start ⊎ After = inr (after.1 (inr more)) in r)
      (new.0 n)),
  (λ (h : Start ⊎ After).
      ⊎_elim
      (λ (s : Start). new.1 (inl (mid.1 (inl s))))
      (λ (a : After). ⊎_elim (λ (b : Before). new.1 (inl (mid.1 (inr b)))) (λ (more : More). new.1 (inr more)) (after.0 a))
      h),
)

pub IfNone-weaker : {A : Type 0} {P Q : Type 0} (o : Option A) → (P → Q) → IfNone o P → IfNone o Q
IfNone-weaker None f h = f h
IfNone-weaker (Some x) f h = tt

pub IfSome-weaker : {A : Type 0} {P Q : A → Type 0} (o : Option A) → ((x : A) → P x → Q x) → IfSome o P → IfSome o Q
IfSome-weaker None f h = tt
IfSome-weaker (Some x) f h = f x h

-- with the same condition on both sides
pub with_both : {After Before More P : Type 0} → After ↔ (Before ⊎ More) → (After × P) ↔ ((Before × P) ⊎ (More × P))
with_both {After} {Before} {More} {P} after = (
  (λ (h : After × P).
      ⊎_elim
      (λ (b : Before). let r : (Before × P) ⊎ (More × P) = inl (b, h.1) in r)
      (λ (m : More). let r : (Before × P) ⊎ (More × P) = inr (m, h.1) in r)
      (after.0 h.0)),
  (λ (h : (Before × P) ⊎ (More × P)).
      ⊎_elim
      (λ (b : Before × P). let r : After × P = (after.1 (inl b.0), b.1) in r)
      (λ (m : More × P). let r : After × P = (after.1 (inr m.0), m.1) in r)
      h),
)
