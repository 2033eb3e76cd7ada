-- The moments by which a run is drained: each is a second behind the one before it.
use Rattle.std.proofs.Common.{◌≡◌, ◌∙◌, ℕ, ◌+◌, ◌<◌, Bool, cond, ltb, List, [], ◌∷◌, ◌++◌, fold, map, max, refl, ap, arith}
use Rattle.std.proofs.lemmas.Bool.{lt-ltb}
use Rattle.std.proofs.lemmas.List.Sums.{fold-append}
use Rattle.trace_file.specs.Contents.{rising_from}
use Rattle.trace_file.specs.declared.line.Line.{Line}
use Rattle.trace_file.specs.declared.line.Line.TheVariants.{Clock}
use Rattle.trace_workers.specs.declared.joined.TheConstants.{DRAIN_STEP}
use Rattle.trace_workers.specs.WorkerRun.{AreSeconds, last_moment}
use Rattle.trace_workers.proofs.Moments.{latest_from, rising_after}

-- the last of these, or m
abbrev pub last_of : ℕ → List ℕ → ℕ
last_of m [] = m
last_of m (t ∷ ts) = last_of t ts

-- one more stands behind them
pub seconds_more : (m : ℕ) (ts : List ℕ) (t : ℕ) → AreSeconds m ts → t ≡ last_of m ts + DRAIN_STEP → AreSeconds m (ts ++ t ∷ [])
seconds_more m [] t h e = (e, tt)
seconds_more m (s ∷ ts) t h e = (h.0, seconds_more s ts t h.1 e)

rise_on : (m t : ℕ) (behind rest : List ℕ) → m < t → fold max m (cond (ltb m t) (t ∷ behind) rest) ≡ fold max t behind
rise_on m t behind rest less =
    let top : max m t ≡ t = omega arith in
    ap (λ (b : Bool). fold max m (cond b (t ∷ behind) rest)) (lt-ltb m t less) ∙ ap (λ (n : ℕ). fold max n behind) top

-- the last is the greatest
pub seconds_rise : (m : ℕ) (ts : List ℕ) → AreSeconds m ts → latest_from m (map Clock ts) ≡ last_of m ts
seconds_rise m [] h = refl
seconds_rise m (t ∷ ts) h =
    let is : t ≡ m + DRAIN_STEP = h.0 in
    let less : m < t = omega (arith, is) in
    rise_on m t (rising_from t (map Clock ts)) (rising_from m (map Clock ts)) less ∙ seconds_rise t ts h.1

latest_after : (xs ys : List Line) → latest_from 0 (xs ++ ys) ≡ latest_from (last_moment xs) ys
latest_after xs ys =
    ap (fold max 0) (rising_after 0 xs ys) ∙ fold-append max 0 (rising_from 0 xs) (rising_from (last_moment xs) ys)

-- and stands above all that the lines tell
pub latest_second : (lines : List Line) (ts : List ℕ) → AreSeconds (last_moment lines) ts → latest_from 0 (lines ++ map Clock ts) ≡ last_of (last_moment lines) ts
latest_second lines ts h = latest_after lines (map Clock ts) ∙ seconds_rise (last_moment lines) ts h
