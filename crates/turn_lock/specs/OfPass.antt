-- Each entry names the pass that made it.
use Rattle.std.specs.Prelude.{ℕ, List, filter, ◌==◌}

-- the entries of one pass, in their order
abbrev pub of_pass : {E : Type 0} → (E → ℕ) → ℕ → List E → List E
of_pass by pass log = filter (λ e. by e == pass) log
