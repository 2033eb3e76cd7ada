-- The first of the followers that lags.
use Rattle.std.proofs.Common.{◌≡◌, ℕ, zero, suc, ◌+◌, ◌<◌, ◌≤◌, Bool, true, false, cond, nat_lt, nat_le, ◌&&◌, List, map, Option, Some, None, IfSome, IsNone, ◌↔◌, arith, refl, ap, sym, ◌∙◌, inl, inr}
use Rattle.std.specs.List.{range_with_len}
use Rattle.std.proofs.lemmas.Bool.{leb-true, leb-false, le-leb, false≢true}
use Rattle.std.proofs.lemmas.Bool.Decides.{eqb_tells}
use Rattle.partlog.specs.declared.in_sync.limits.TheConstants.{MOST_LAG}
use Rattle.partlog.specs.declared.in_sync.standing.Standing.{Standing}
use Rattle.partlog.specs.in_sync.ReplicaEvent.{ReplicaEvent}
use Rattle.partlog.specs.in_sync.LogEnd.{log_end_of}
use Rattle.partlog.specs.in_sync.Position.{position_of}
use Rattle.partlog.specs.in_sync.InSync.{in_sync_of}
use Rattle.partlog.specs.in_sync.CaughtUp.{caught_up_of}
use Rattle.partlog.specs.in_sync.Lagging.{Lags}
use Rattle.partlog.specs.in_sync.Standings.{standing_of}
use Rattle.partlog.specs.in_sync.Steps.{is_late, first_late}

-- what is found among so many followers, the first of which has this number
abbrev IsFirst : (ℕ → Bool) → ℕ → ℕ → Option ℕ → Type 0
IsFirst late first count None = (q : ℕ) → first ≤ q → q < first + count → late q ≡ false
IsFirst late first count (Some k) = (first ≤ k) × (k < first + count) × (late k ≡ true) × ((q : ℕ) → first ≤ q → q < k → late q ≡ false)

either_at : (late : ℕ → Bool) (first q : ℕ) → late first ≡ false → first ≤ q → (first + 1 ≤ q → late q ≡ false) → late q ≡ false
either_at late first q not_this from later =
    elim (eqb_tells q first) [
      | inl same ↦ ap late same.1 ∙ not_this
      | inr apart ↦ let not_it = apart.1 in later (omega (arith, from, not_it))
    ]

one_more : (late : ℕ → Bool) (first count : ℕ) → late first ≡ false → (o : Option ℕ) → IsFirst late (first + 1) count o → IsFirst late first (suc count) o
one_more late first count not_this None rest = λ q from below. either_at late first q not_this from (λ le. rest q le (omega (arith, below)))
one_more late first count not_this (Some k) rest =
    (omega (arith, rest.0), omega (arith, rest.1), rest.2, λ q from below. either_at late first q not_this from (λ le. rest.3 q le below))

module _ (log_end t : ℕ) (each : ℕ → Standing) where
  abbrev late : ℕ → Bool
  late replica = is_late log_end t (each replica)

  first_is : (first count : ℕ) → IsFirst late first count (first_late log_end t first (map each (range_with_len first count)))
  first_is first zero = λ q from below. absurd (omega (arith, from, below))
  first_is first (suc count) = this_one (late first) refl (first_is (first + 1) count)
    where
      this_one : (b : Bool) → late first ≡ b → IsFirst late (first + 1) count (first_late log_end t (first + 1) (map each (range_with_len (first + 1) count))) → IsFirst late first (suc count) (cond b (Some first) (first_late log_end t (first + 1) (map each (range_with_len (first + 1) count))))
      this_one true is rest = (omega arith, omega arith, is, λ q from below. absurd (omega (arith, from, below)))
      this_one false is rest = one_more late first count is (first_late log_end t (first + 1) (map each (range_with_len (first + 1) count))) rest

both : (a b : Bool) → (a && b) ≡ true → (a ≡ true) × (b ≡ true)
both true b h = (refl, h)
both false b h = absurd (false≢true h)

joined : (a b : Bool) → a ≡ true → b ≡ true → (a && b) ≡ true
joined true b ha hb = hb
joined false b ha hb = absurd (false≢true ha)

module _ (followers : ℕ) (events : List ReplicaEvent) (t : ℕ) where
  abbrev each_late : ℕ → Bool
  each_late replica = is_late (log_end_of events) t (standing_of followers events replica)

  abbrev behind : ℕ → Bool
  behind replica = nat_lt (position_of events replica) (log_end_of events)

  abbrev long_ago : ℕ → Bool
  long_ago replica = nat_le (caught_up_of events replica + MOST_LAG) t

  pub lags_late : (replica : ℕ) → Lags followers events t replica → each_late replica ≡ true
  lags_late replica lags =
      joined (in_sync_of followers events replica) (behind replica && long_ago replica) lags.in_sync
      (joined (behind replica) (long_ago replica) (le-leb (suc (position_of events replica)) (log_end_of events) (omega (arith, lags.behind))) (le-leb (caught_up_of events replica + MOST_LAG) t lags.late))

  pub late_lags : (replica : ℕ) → 1 ≤ replica → replica < 1 + followers → each_late replica ≡ true → Lags followers events t replica
  late_lags replica from below late =
      let one = both (in_sync_of followers events replica) (behind replica && long_ago replica) late in
      let two = both (behind replica) (long_ago replica) one.1 in
      record {
        follower = (omega (arith, from), omega (arith, below));
        in_sync = one.0;
        behind = omega (arith, leb-true (suc (position_of events replica)) (log_end_of events) two.0);
        late = leb-true (caught_up_of events replica + MOST_LAG) t two.1;
      }

  not_late : (replica : ℕ) → each_late replica ≡ false → Lags followers events t replica → ⊥
  not_late replica is lags = false≢true (sym is ∙ lags_late replica lags)

  abbrev result : Option ℕ
  result = first_late (log_end_of events) t 1 (map (standing_of followers events) (range_with_len 1 followers))

  abbrev pub IsLeast : Option ℕ → Type 0
  IsLeast o = IfSome o (λ replica. Lags followers events t replica × ((other : ℕ) → Lags followers events t other → replica ≤ other))

  least : (o : Option ℕ) → IsFirst each_late 1 followers o → IsLeast o
  least None is = tt
  least (Some k) is = (late_lags k is.0 is.1 is.2, λ other lags. at_most other lags (nat_le k other) refl)
    where
      at_most : (other : ℕ) → Lags followers events t other → (b : Bool) → nat_le k other ≡ b → k ≤ other
      at_most other lags true le = leb-true k other le
      at_most other lags false gt = absurd (not_late other (is.3 other (omega (arith, lags.follower.0)) (omega (arith, leb-false k other gt))) lags)

  abbrev Nobody : Type 0
  Nobody = (replica : ℕ) → Lags followers events t replica → ⊥

  abbrev pub IsNobody : Option ℕ → Type 0
  IsNobody o = IsNone o ↔ Nobody

  no_one : (o : Option ℕ) → IsFirst each_late 1 followers o → IsNobody o
  no_one None is = (λ _. λ replica lags. not_late replica (is replica (omega (arith, lags.follower.0)) (omega (arith, lags.follower.1))) lags, λ _. refl)
  no_one (Some k) is = (λ none. absurd (false≢true (sym none)), λ nobody. absurd (nobody k (late_lags k is.0 is.1 is.2)))

  pub lagging-found : IsLeast result
  lagging-found = least result (first_is (log_end_of events) t (standing_of followers events) 1 followers)

  pub lagging-none : IsNobody result
  lagging-none = no_one result (first_is (log_end_of events) t (standing_of followers events) 1 followers)
