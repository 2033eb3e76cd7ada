-- The moments that lines tell the clock, as lines come behind others.
use Rattle.std.proofs.Common.{◌≡◌, ◌∙◌, ℕ, ◌<◌, ◌≤◌, Bool, true, false, cond, ltb, List, [], ◌∷◌, ◌++◌, fold, max, refl, sym, ap, arith}
use Rattle.std.proofs.lemmas.Bool.{ltb-true, lt-ltb, le-ltb}
use Rattle.std.proofs.lemmas.List.{append-nil}
use Rattle.trace_file.specs.Contents.{rising_from}
use Rattle.trace_file.specs.declared.line.Line.{Line}
use Rattle.trace_file.specs.declared.line.Line.TheVariants.{Topic, Feed, Shut, Clock, End}

-- the greatest moment of these lines, or m
abbrev pub latest_from : ℕ → List Line → ℕ
latest_from m lines = fold max m (rising_from m lines)

after_rise : (m t : ℕ) (rest behind : List ℕ) (tail : ℕ → List ℕ) → m < t → behind ≡ rest ++ tail (fold max t rest) → t ∷ behind ≡ t ∷ rest ++ tail (fold max (max m t) rest)
after_rise m t rest behind tail less is =
    let top : max m t ≡ t = omega arith in
    ap (λ (xs : List ℕ). t ∷ xs) is ∙ ap (λ (n : ℕ). t ∷ rest ++ tail (fold max n rest)) (sym top)

pub rising_after : (m : ℕ) (xs ys : List Line) → rising_from m (xs ++ ys) ≡ rising_from m xs ++ rising_from (latest_from m xs) ys
rising_after m [] ys = refl
rising_after m (Topic name partitions followers least ∷ xs) ys = rising_after m xs ys
rising_after m (Feed session bytes ∷ xs) ys = rising_after m xs ys
rising_after m (Shut session ∷ xs) ys = rising_after m xs ys
rising_after m (Clock t ∷ xs) ys = by_test (ltb m t) (ltb-true m t) (rising_after t xs ys) (rising_after m xs ys)
  where
    by_test : (b : Bool) → (b ≡ true → m < t)
        → rising_from t (xs ++ ys) ≡ rising_from t xs ++ rising_from (latest_from t xs) ys
        → rising_from m (xs ++ ys) ≡ rising_from m xs ++ rising_from (latest_from m xs) ys
        → cond b (t ∷ rising_from t (xs ++ ys)) (rising_from m (xs ++ ys))
        ≡ cond b (t ∷ rising_from t xs) (rising_from m xs) ++ rising_from (fold max m (cond b (t ∷ rising_from t xs) (rising_from m xs))) ys
    by_test true is above below = after_rise m t (rising_from t xs) (rising_from t (xs ++ ys)) (λ n. rising_from n ys) (is refl) above
    by_test false is above below = below
rising_after m (End ∷ xs) ys = rising_after m xs ys

-- a moment above all before is told
pub risen : (lines : List Line) (t : ℕ) → latest_from 0 lines < t → rising_from 0 (lines ++ Clock t ∷ []) ≡ rising_from 0 lines ++ t ∷ []
risen lines t less =
    rising_after 0 lines (Clock t ∷ [])
    ∙ ap (λ (b : Bool). rising_from 0 lines ++ cond b (t ∷ []) []) (lt-ltb (latest_from 0 lines) t less)

-- any other is not
pub stayed : (lines : List Line) (t : ℕ) → t ≤ latest_from 0 lines → rising_from 0 (lines ++ Clock t ∷ []) ≡ rising_from 0 lines
stayed lines t le =
    rising_after 0 lines (Clock t ∷ [])
    ∙ ap (λ (b : Bool). rising_from 0 lines ++ cond b (t ∷ []) []) (le-ltb (latest_from 0 lines) t le)
    ∙ append-nil (rising_from 0 lines)
