-- The ticks of an account whose clock one pass alone has told.
use Rattle.std.proofs.Common.{◌≡◌, ◌∙◌, ℕ, zero, suc, ◌<◌, ◌≤◌, Bool, true, false, cond, List, [], ◌∷◌, ◌++◌, MatchBool, get_or, length, map, refl, sym, ap, subst, arith}
use Rattle.std.specs.Prelude.{◌↔◌, All, Any, Contains}
use Rattle.std.specs.List.{AllPairs}
use Rattle.std.specs.List.Sorted.{IsStrictlyIncreasing}
use Rattle.std.proofs.lemmas.Bool.{lt-ltb}
use Rattle.std.proofs.lemmas.List.Elements.{All-push, Contains-get_or}
use Rattle.std.proofs.lemmas.List.Kept.{AllPairs-from_increasing}
use Rattle.std.proofs.lemmas.List.Quantifiers.{Any-push}
use Rattle.trace_file.specs.Contents.{rising_from}
use Rattle.trace_file.specs.declared.line.Line.TheVariants.{Clock}
use Rattle.trace_workers.specs.WorkerRun.{AreSeconds}

-- ---- numbers that rise are the same where their members are

abbrev Rise : List ℕ → Type 0
Rise xs = AllPairs (λ x y. x < y) xs

rise_behind : (x : ℕ) (xs : List ℕ) → Rise (x ∷ xs) → Rise xs
rise_behind x xs up i j d lt less = up (suc i) (suc j) d (omega (arith, lt)) (omega (arith, less))

least_at : (x : ℕ) (xs : List ℕ) (t k : ℕ) → Rise (x ∷ xs) → k < length (x ∷ xs) → get_or (x ∷ xs) k t ≡ t → x ≤ t
least_at x xs t zero up less is = omega (arith, is)
least_at x xs t (suc k) up less is = omega (arith, up 0 (suc k) t (omega arith) less, is)

least : (x : ℕ) (xs : List ℕ) (t : ℕ) → Rise (x ∷ xs) → Contains (x ∷ xs) t → x ≤ t
least x xs t up c = least_at x xs t c.0 up c.1 c.2

behind_at : (x : ℕ) (xs : List ℕ) (t k : ℕ) → x < t → k < length (x ∷ xs) → get_or (x ∷ xs) k t ≡ t → Contains xs t
behind_at x xs t zero above less is = absurd (omega (arith, above, is))
behind_at x xs t (suc k) above less is = (k, omega (arith, less), is)

same_members : (xs ys : List ℕ) → Rise xs → Rise ys → All (Contains ys) xs → All (Contains xs) ys → xs ≡ ys
same_members [] [] up over on back = refl
same_members [] (y ∷ ys) up over on back = let c = back 0 y (omega arith) in let less = c.1 in absurd (omega (arith, less))
same_members (x ∷ xs) [] up over on back = let c = on 0 x (omega arith) in let less = c.1 in absurd (omega (arith, less))
same_members (x ∷ xs) (y ∷ ys) up over on back =
    let a = least x xs y up (back 0 y (omega arith)) in
    let b = least y ys x over (on 0 x (omega arith)) in
    let same : x ≡ y = omega (arith, a, b) in
    let rest = same_members xs ys (rise_behind x xs up) (rise_behind y ys over)
    (λ k d less.
    let above : x < get_or xs k d = up 0 (suc k) d (omega arith) (omega (arith, less)) in
    let c : Contains (y ∷ ys) (get_or xs k d) = on (suc k) d (omega (arith, less)) in
    behind_at y ys (get_or xs k d) c.0 (omega (arith, above, same)) c.1 c.2)
    (λ k d less.
    let above : y < get_or ys k d = over 0 (suc k) d (omega arith) (omega (arith, less)) in
    let c : Contains (x ∷ xs) (get_or ys k d) = back (suc k) d (omega (arith, less)) in
    behind_at x xs (get_or ys k d) c.0 (omega (arith, above, same)) c.1 c.2) in
    ap (λ (n : ℕ). n ∷ xs) same ∙ ap (λ (ts : List ℕ). y ∷ ts) rest

same_rising : (xs ys : List ℕ) → IsStrictlyIncreasing (0 ∷ xs) → IsStrictlyIncreasing (0 ∷ ys) → ((t : ℕ) → Contains xs t ↔ Contains ys t) → xs ≡ ys
same_rising xs ys up over both =
    same_members xs ys (rise_behind 0 xs (AllPairs-from_increasing (0 ∷ xs) up)) (rise_behind 0 ys (AllPairs-from_increasing (0 ∷ ys) over))
    (λ k d less. (both (get_or xs k d)).0 (Contains-get_or xs k d less)) (λ k d less. (both (get_or ys k d)).1 (Contains-get_or ys k d less))

-- ---- where only the last has something, it is all

any_last : {X : Type 0} (P : X → Type 0) (xs : List X) (x : X) → All (λ y. P y → ⊥) xs → Any P (xs ++ x ∷ []) → P x
any_last P xs x none a =
    let each : All (λ y. P y → P x) (xs ++ x ∷ []) = All-push (λ y. P y → P x) xs x (λ k d less p. absurd (none k d less p)) (λ p. p) in
    subst (λ y. P y → P x) a.3 (each a.0 a.1 a.2) a.4

pub only_last : {X : Type 0} (f : X → List ℕ) (ticks : List ℕ) (xs : List X) (x : X) → IsStrictlyIncreasing (0 ∷ ticks) → IsStrictlyIncreasing (0 ∷ f x) → All (λ y. f y ≡ []) xs
    → ((t : ℕ) → Contains ticks t ↔ Any (λ y. Contains (f y) t) (xs ++ x ∷ [])) → ticks ≡ f x
only_last f ticks xs x up over none both = same_rising ticks (f x) up over (λ t. (
  λ c. any_last (λ y. Contains (f y) t) xs x (λ k d less has. no_tick t (subst (λ (ts : List ℕ). Contains ts t) (none k d less) has)) ((both t).0 c),
  λ c. (both t).1 (Any-push (λ y. Contains (f y) t) xs x c),
))
  where
    no_tick : (t : ℕ) → Contains [] t → ⊥
    no_tick t c = let less = c.1 in absurd (omega (arith, less))

-- ---- moments that are added

seconds_rise : (m : ℕ) (added : List ℕ) → AreSeconds m added → rising_from m (map Clock added) ≡ added
seconds_rise m [] seconds = refl
seconds_rise m (t ∷ ts) seconds =
    let step = seconds.0 in
    ap (λ (b : Bool). cond b (t ∷ rising_from t (map Clock ts)) (rising_from m (map Clock ts))) (lt-ltb m t (omega (arith, step)))
    ∙ ap (λ (xs : List ℕ). t ∷ xs) (seconds_rise t ts seconds.1)

-- by the second, or none
pub added_rise : (drain : Bool) (m : ℕ) (added : List ℕ) → MatchBool drain (AreSeconds m added) (added ≡ []) → rising_from m (map Clock added) ≡ added
added_rise true m added seconds = seconds_rise m added seconds
added_rise false m added none = ap (λ (ts : List ℕ). rising_from m (map Clock ts)) none ∙ sym none
