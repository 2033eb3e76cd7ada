-- The words of a line that are filled, and what form they have.
use Rattle.std.proofs.Common.{◌≡◌, ◌≢◌, ℕ, Bool, true, false, cond, eqb, List, [], ◌∷◌, length, refl, ap, subst, arith}
use Rattle.std.specs.List.{All}
use Rattle.trace_file.specs.declared.line.TheConstants.{MOST_NUMBER}
use Rattle.trace_file.specs.LineFaults.{Name, Number, topic_form, AreFilled}

pub second_filled : {words : List (List ℕ)} (first second : List ℕ) → words ≡ first ∷ second ∷ [] → AreFilled words 2 → second ≢ []
second_filled {words = words} first second is h = (subst (λ (ws : List (List ℕ)). All (λ word. word ≢ []) ws) is h.filled) 1 [] (omega arith)

-- words that are neither three nor four filled ones have the form of no topic
pub no_topic : (words : List (List ℕ)) → ¬ AreFilled words 3 → ¬ AreFilled words 4 → ¬ AreFilled words (length (topic_form (length words)))
no_topic words three four = by_test (eqb (length words) 4) refl
  where
    by_test : (b : Bool) → eqb (length words) 4 ≡ b → ¬ AreFilled words (length (topic_form (length words)))
    by_test true is = let form : length (topic_form (length words)) ≡ 4 = ap (λ (b : Bool). length (Name ∷ Number MOST_NUMBER ∷ Number MOST_NUMBER ∷ cond b (Number MOST_NUMBER ∷ []) [])) is in λ filled. four (subst (AreFilled words) form filled)
    by_test false is = let form : length (topic_form (length words)) ≡ 3 = ap (λ (b : Bool). length (Name ∷ Number MOST_NUMBER ∷ Number MOST_NUMBER ∷ cond b (Number MOST_NUMBER ∷ []) [])) is in λ filled. three (subst (AreFilled words) form filled)
