-- What a list becomes that an object may tell or not.
use Rattle.std.specs.Prelude.{◌≡◌, ℕ, List, [], ◌∷◌, ◌++◌, take, ⊤, Option, Some, None, Result, MatchResult}
use Rattle.std.specs.Io.KnownBytes.{Appends, Keeps}

-- where it is told, it has nothing in it
abbrev pub IsBare : {A : Type 0} → Option (List A) → Type 0
IsBare None = ⊤
IsBare (Some xs) = xs ≡ []

-- where it was told, it has one more at its end, and nothing else changed. What isn't told goes on untold
abbrev pub Gains : {A : Type 0} → Option (List A) → Option (List A) → A → Type 0
Gains None None x = ⊤
Gains None (Some ys) x = ⊥
Gains (Some xs) None x = ⊥
Gains (Some xs) (Some ys) x = ys ≡ xs ++ x ∷ []

-- the bytes taken from an object grow by those that a read gave, and by none where it failed
abbrev pub ReadAppends : {E : Type 0} → Option (List ℕ) → Option (List ℕ) → Result ℕ E → List ℕ → Type 0
ReadAppends old new r into = MatchResult r (λ n. Appends old new (take n into)) (λ _. Keeps old new)
