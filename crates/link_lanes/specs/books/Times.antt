-- How often a number stands in a list, and in several.
use Rattle.std.specs.Prelude.{ℕ, ◌+◌, ◌==◌, Bool, List, [], ◌∷◌, if◌then◌else◌, nat_lt}

abbrev pub one_where : Bool → ℕ
one_where holds = if holds then 1 else 0

abbrev pub times : ℕ → List ℕ → ℕ
times n [] = 0
times n (x ∷ xs) = one_where (x == n) + times n xs

-- the sum over the items of a list
abbrev pub total : {A : Type 0} → (A → ℕ) → List A → ℕ
total f [] = 0
total f (x ∷ xs) = f x + total f xs

-- once, where the number is below that many, and else not at all
abbrev pub once_below : ℕ → ℕ → ℕ
once_below count n = one_where (nat_lt n count)
