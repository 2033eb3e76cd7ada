-- Hex digits of bytes, part by part.
use Rattle.std.proofs.Common.{◌≡◌, ℕ, ◌/◌, ◌%◌, List, [], ◌∷◌, ◌++◌, get_or, refl, ap}
use Rattle.hex.specs.Hex.{encode_with}

pub encode_with-append : (table xs ys : List ℕ) → encode_with table (xs ++ ys) ≡ encode_with table xs ++ encode_with table ys
unfolding encode_with
encode_with-append table [] ys = refl
encode_with-append table (x ∷ xs) ys = ap (λ (ds : List ℕ). get_or table (x / 16) 0 ∷ (get_or table (x % 16) 0 ∷ ds)) (encode_with-append table xs ys)
