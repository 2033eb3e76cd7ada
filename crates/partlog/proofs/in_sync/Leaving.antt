-- Those that lag, as they leave one after the other.
use Rattle.std.proofs.Common.{◌≡◌, ℕ, zero, suc, ◌+◌, ◌==◌, ◌<◌, ◌≤◌, Bool, true, false, cond, List, [], ◌∷◌, ◌++◌, filter, arith, refl, ap, sym, ◌∙◌, inl, inr}
use Rattle.std.specs.List.{range_with_len}
use Rattle.std.proofs.lemmas.Bool.{false≢true}
use Rattle.std.proofs.lemmas.Bool.Decides.{eqb_tells}
use Rattle.std.proofs.lemmas.List.Elements.{filter_agree}
use Rattle.partlog.specs.in_sync.ReplicaEvent.{ReplicaEvent, Left}
use Rattle.partlog.specs.in_sync.LogEnd.{log_end_of}
use Rattle.partlog.specs.in_sync.Lagging.{IsFollower, Lags, lags}
use Rattle.partlog.specs.in_sync.Standings.{standing_of}
use Rattle.partlog.specs.in_sync.Steps.{is_late}
use Rattle.partlog.proofs.in_sync.Growing.{standing-left, end-left}
use Rattle.partlog.proofs.in_sync.Kept.{tested, untested}
use Rattle.partlog.proofs.in_sync.Late.{lags_late, late_lags}

-- the same test, which fails at one number besides
abbrev without : (ℕ → Bool) → ℕ → ℕ → Bool
without test r q = cond (r == q) false (test q)

-- numbers above that one are tested as before
above-it : (test : ℕ → Bool) (r first count : ℕ) → r < first → filter (without test r) (range_with_len first count) ≡ filter test (range_with_len first count)
above-it test r first zero above = refl
above-it test r first (suc count) above =
    let others : List ℕ = filter (without test r) (range_with_len (first + 1) count) in
    ap (λ b. cond (cond b false (test first)) (first ∷ others) others) (untested r first (λ e. omega (arith, e, above)))
    ∙ ap (λ (l : List ℕ). cond (test first) (first ∷ l) l) (above-it test r (first + 1) count (omega (arith, above)))

-- the least of the numbers from the first on that pass, and those that pass after it
record IsFirstOf (test : ℕ → Bool) (first count r : ℕ) (rest : List ℕ) : Type 0 where
  from : first ≤ r
  below : r < first + count
  passes : test r ≡ true
  least : (q : ℕ) → first ≤ q → test q ≡ true → r ≤ q
  others : filter (without test r) (range_with_len first count) ≡ rest

from_next : (test : ℕ → Bool) (first r : ℕ) → test first ≡ false → ((q : ℕ) → first + 1 ≤ q → test q ≡ true → r ≤ q) → (q : ℕ) → first ≤ q → test q ≡ true → r ≤ q
from_next test first r fails least q from passes =
    elim (eqb_tells q first) [
      | inl same ↦ absurd (false≢true (sym fails ∙ ap test (sym same.1) ∙ passes))
      | inr apart ↦ let not_it = apart.1 in least q (omega (arith, from, not_it)) passes
    ]

first-is : (test : ℕ → Bool) (first count r : ℕ) (rest : List ℕ) → filter test (range_with_len first count) ≡ r ∷ rest → IsFirstOf test first count r rest
first-is test first zero r rest is = absurd cc
first-is test first (suc count) r rest is = by_first (test first) refl is (first-is test (first + 1) count r rest)
  where
    dropped : (b : Bool) (l : List ℕ) → cond (cond b false false) (first ∷ l) l ≡ l
    dropped true l = refl
    dropped false l = refl

    by_first : (b : Bool) → test first ≡ b → cond b (first ∷ filter test (range_with_len (first + 1) count)) (filter test (range_with_len (first + 1) count)) ≡ r ∷ rest → (filter test (range_with_len (first + 1) count) ≡ r ∷ rest → IsFirstOf test (first + 1) count r rest) → IsFirstOf test first (suc count) r rest
    by_first true passes all later =
        let others : List ℕ = filter (without test r) (range_with_len (first + 1) count) in
        let here : first ≡ r = cc in
        let after : filter test (range_with_len (first + 1) count) ≡ rest = cc in
        record {
          from = omega (arith, here);
          below = omega (arith, here);
          passes = ap test (sym here) ∙ passes;
          least = λ q from _. omega (arith, here, from);
          others = ap (λ b. cond (cond b false (test first)) (first ∷ others) others) (tested r first (sym here)) ∙ above-it test r (first + 1) count (omega (arith, here)) ∙ after;
        }
    by_first false fails all later =
        let others : List ℕ = filter (without test r) (range_with_len (first + 1) count) in
        let found : IsFirstOf test (first + 1) count r rest = later all in
        record {
          from = omega (arith, found.from);
          below = omega (arith, found.below);
          passes = found.passes;
          least = from_next test first r fails found.least;
          others = ap (λ b. cond (cond (r == first) false b) (first ∷ others) others) fails ∙ dropped (r == first) others ∙ found.others;
        }

-- where none passes there is none
none-passes : (test : ℕ → Bool) (first count : ℕ) → filter test (range_with_len first count) ≡ [] → (q : ℕ) → first ≤ q → q < first + count → test q ≡ true → ⊥
none-passes test first zero none q from below passes = absurd (omega (arith, from, below))
none-passes test first (suc count) none q from below passes = by_first (test first) refl none (λ rest next. none-passes test (first + 1) count rest q next (omega (arith, below)) passes)
  where
    by_first : (b : Bool) → test first ≡ b → cond b (first ∷ filter test (range_with_len (first + 1) count)) (filter test (range_with_len (first + 1) count)) ≡ [] → (filter test (range_with_len (first + 1) count) ≡ [] → first + 1 ≤ q → ⊥) → ⊥
    by_first true is some later = absurd cc
    by_first false fails rest later =
        elim (eqb_tells q first) [
          | inl same ↦ absurd (false≢true (sym fails ∙ ap test (sym same.1) ∙ passes))
          | inr apart ↦ let not_it = apart.1 in later rest (omega (arith, from, not_it))
        ]

module _ (followers : ℕ) (events : List ReplicaEvent) where
  -- as a replica leaves it doesn't lag any more, and each other one lags as before
  pub lags-left : (other u t replica : ℕ) → lags followers (events ++ Left other u ∷ []) t replica ≡ cond (other == replica) false (lags followers events t replica)
  lags-left other u t replica =
      ap (λ (n : ℕ). is_late n t (standing_of followers (events ++ Left other u ∷ []) replica)) (sym (end-left events other u))
      ∙ ap (is_late (log_end_of events) t) (standing-left followers events replica other u)
      ∙ either (other == replica)
    where
      either : (b : Bool) → is_late (log_end_of events) t (cond b (record (standing_of followers events replica) { in_sync = false }) (standing_of followers events replica)) ≡ cond b false (lags followers events t replica)
      either true = refl
      either false = refl

  module _ (t : ℕ) where
    -- the followers that lag, from the least on
    abbrev late : List ℕ
    late = filter (lags followers events t) (range_with_len 1 followers)

    pub lags-true : (replica : ℕ) → Lags followers events t replica → lags followers events t replica ≡ true
    lags-true = lags_late followers events t

    pub true-lags : (replica : ℕ) → IsFollower replica followers → lags followers events t replica ≡ true → Lags followers events t replica
    true-lags replica is passes = late_lags followers events t replica (omega (arith, is.0)) (omega (arith, is.1)) passes

    -- the first of them, and those that lag once it has left
    pub late-first : (replica : ℕ) (rest : List ℕ) → late ≡ replica ∷ rest → Lags followers events t replica
    late-first replica rest is =
        let found = first-is (lags followers events t) 1 followers replica rest is in
        late_lags followers events t replica found.from found.below found.passes

    pub late-least : (replica : ℕ) (rest : List ℕ) → late ≡ replica ∷ rest → (other : ℕ) → Lags followers events t other → replica ≤ other
    late-least replica rest is other lagging =
        (first-is (lags followers events t) 1 followers replica rest is).least other (omega (arith, lagging.follower.0)) (lags-true other lagging)

    pub late-rest : (replica u : ℕ) (rest : List ℕ) → late ≡ replica ∷ rest → filter (lags followers (events ++ Left replica u ∷ []) t) (range_with_len 1 followers) ≡ rest
    late-rest replica u rest is =
        filter_agree (lags followers (events ++ Left replica u ∷ []) t) (without (lags followers events t) replica) (λ q. lags-left replica u t q) (range_with_len 1 followers)
        ∙ (first-is (lags followers events t) 1 followers replica rest is).others

    -- none lags exactly where there is no such follower
    pub late-none : late ≡ [] → (replica : ℕ) → Lags followers events t replica → ⊥
    late-none none replica lagging =
        none-passes (lags followers events t) 1 followers none replica (omega (arith, lagging.follower.0)) (omega (arith, lagging.follower.1)) (lags-true replica lagging)

    pub none-late : ((replica : ℕ) → Lags followers events t replica → ⊥) → late ≡ []
    none-late nobody = by_list late refl
      where
        by_list : (l : List ℕ) → late ≡ l → late ≡ []
        by_list [] is = is
        by_list (r ∷ rest) is = absurd (nobody r (late-first r rest is))

    abbrev after : ℕ → ℕ → List ℕ
    after u left = filter (lags followers (events ++ Left left u ∷ []) t) (range_with_len 1 followers)

    -- where one is the least of them
    pub late-with : (replica u : ℕ) → Lags followers events t replica → ((other : ℕ) → Lags followers events t other → replica ≤ other) → late ≡ replica ∷ filter (lags followers (events ++ Left replica u ∷ []) t) (range_with_len 1 followers)
    late-with replica u lagging least = by_list late refl
      where
        by_list : (l : List ℕ) → late ≡ l → late ≡ replica ∷ after u replica
        by_list [] is = absurd (late-none is replica lagging)
        by_list (r ∷ rest) is =
            let low : replica ≤ r = least r (late-first r rest is) in
            let high : r ≤ replica = late-least r rest is replica lagging in
            let same : r ≡ replica = omega (arith, low, high) in
            is ∙ ap (λ (l : List ℕ). r ∷ l) (sym (late-rest r u rest is)) ∙ ap (λ (n : ℕ). n ∷ after u n) same
