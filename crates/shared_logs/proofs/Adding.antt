-- A history that one pass goes on.
use Rattle.std.proofs.Common.{◌≡◌, ℕ, List, [], ◌∷◌, ◌++◌, Result, Ok, Err, false, sym, append-nil}
use Rattle.std.proofs.lemmas.List.Elements.{All-cons, All-nil}
use Rattle.std.specs.Prelude.{OnOk, OnErr}
use Rattle.std.specs.Result.{is_err}
use Rattle.turn_lock.specs.AddedBy.{AddedBy}

-- either of what Ok and Err say
pub either : {T E : Type 0} {P Q R : Type 0} (r : Result T E) → OnOk r P → OnErr r Q → (P → R) → (Q → R) → R
either (Ok x) p q f g = f p
either (Err e) p q f g = g q

-- what Ok says of a result that is no Err
pub was_ok : {T E : Type 0} {P : Type 0} (r : Result T E) → false ≡ is_err r → OnOk r P → P
was_ok (Ok x) none p = p
was_ok (Err e) none p = absurd cc

module _ {E : Type 0} (by : E → ℕ) (pass : ℕ) where
  -- nothing was added
  pub added_none : (log : List E) → AddedBy by pass log log
  added_none log = ([], sym (append-nil log), All-nil (λ e. by e ≡ pass))

  -- one entry of the pass was added
  pub added_one : (before after : List E) (x : E) → after ≡ before ++ x ∷ [] → by x ≡ pass → AddedBy by pass before after
  added_one before after x is whose = (x ∷ [], is, All-cons (λ e. by e ≡ pass) x [] whose (All-nil (λ e. by e ≡ pass)))
