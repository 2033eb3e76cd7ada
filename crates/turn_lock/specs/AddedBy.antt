-- What one turn may do to the history.
use Rattle.std.specs.Prelude.{◌≡◌, ℕ, List, ◌++◌, All}

-- the later history is the earlier one, followed by entries of this pass alone
abbrev pub AddedBy : {E : Type 0} → (E → ℕ) → ℕ → List E → List E → Type 0
AddedBy {E} by pass before after = (own : List E) × (after ≡ before ++ own) × All (λ e. by e ≡ pass) own
