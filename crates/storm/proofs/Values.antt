-- The value of a record: the zeros before the digits.
use Rattle.std.proofs.Common.{◌≡◌, ℕ, ◌+◌, ◌-◌, ◌≤◌, List, [], ◌∷◌, ◌++◌, length, take, drop, replicate, ap, ◌∙◌, append-nil, arith}
use Rattle.std.proofs.lemmas.List.{drop-drop, take-replicate}
use Rattle.std.specs.Fmt.{decimal}
use Rattle.storm.specs.Requests.{value_of}

abbrev pub zeros : List ℕ
zeros = 48 ∷ 48 ∷ 48 ∷ 48 ∷ 48 ∷ 48 ∷ 48 ∷ 48 ∷ 48 ∷ 48 ∷ 48 ∷ 48 ∷ 48 ∷ 48 ∷ 48 ∷ 48 ∷ []

-- digits that are put over the last zeros
pub value_over : (i : ℕ) (zeroed digits put : List ℕ) → zeroed ≡ zeros → digits ≡ decimal i → put ≡ digits → length digits ≤ 16
    → take (16 - length digits) zeroed ++ (put ++ drop (length zeroed - (16 - length digits)) (drop (16 - length digits) zeroed)) ≡ value_of i
value_over i zeroed digits put are is same few =
    let front = 16 - length digits in
    let all : front + (16 - front) ≡ 16 = omega (arith, few) in
    let none : drop (16 - front) (drop front zeros) ≡ [] = drop-drop (16 - front) front zeros ∙ ap (λ (k : ℕ). drop k zeros) all in
    ap (λ (xs : List ℕ). take front xs ++ (put ++ drop (length xs - front) (drop front xs))) are
    ∙ ap (λ (xs : List ℕ). take front zeros ++ (xs ++ drop (16 - front) (drop front zeros))) same
    ∙ ap (λ (xs : List ℕ). take front zeros ++ (digits ++ xs)) none
    ∙ ap (λ (xs : List ℕ). take front zeros ++ xs) (append-nil digits)
    ∙ ap (λ (xs : List ℕ). xs ++ digits) (take-replicate front 16 48 (omega arith))
    ∙ ap (λ (ds : List ℕ). replicate (16 - length ds) 48 ++ ds) is
