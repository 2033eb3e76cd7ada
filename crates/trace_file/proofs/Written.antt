-- What is written, part by part.
use Rattle.std.proofs.Common.{◌≡◌, ℕ, Bool, true, false, cond, List, [], ◌∷◌, ◌++◌, refl, ap, ◌∙◌, append_assoc}
use Rattle.std.specs.Prelude.{nat_lt}
use Rattle.std.specs.Fmt.{decimal}
use Rattle.trace_file.specs.PrintedLine.{line_of, least_words}

pub four_parts : (old a b c d first second third fourth : List ℕ) → first ≡ old ++ a → second ≡ first ++ b → third ≡ second ++ c → fourth ≡ third ++ d → fourth ≡ old ++ (a ++ (b ++ (c ++ d)))
four_parts old a b c d first second third fourth one two three four =
    four ∙ ap (λ (xs : List ℕ). xs ++ d) (three ∙ ap (λ (xs : List ℕ). xs ++ c) (two ∙ ap (λ (xs : List ℕ). xs ++ b) one))
    ∙ append_assoc ((old ++ a) ++ b) c d ∙ append_assoc (old ++ a) b (c ++ d) ∙ append_assoc old a (b ++ (c ++ d))

-- the end of a topic's line, whose last word may be left out
pub least_line : (word : List ℕ) (least : ℕ) → line_of (word ∷ least_words least) ≡ word ++ (cond (nat_lt 1 least) (32 ∷ decimal least) [] ++ 10 ∷ [])
least_line word least = by_test (nat_lt 1 least)
  where
    by_test : (b : Bool) → line_of (word ∷ cond b (decimal least ∷ []) []) ≡ word ++ (cond b (32 ∷ decimal least) [] ++ 10 ∷ [])
    by_test true = refl
    by_test false = refl
