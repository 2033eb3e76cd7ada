-- A tick is in the clock's history exactly where a pass added it.
use Rattle.std.proofs.Common.{⊎_elim, ◌≡◌, ◌≢◌, ◌∙◌, ℕ, zero, suc, ◌<◌, ◌≤◌, Bool, cond, List, [], ◌∷◌, Some, fold, get_or, length, max, ap, refl, subst, sym, arith}
use Rattle.std.specs.Prelude.{◌↔◌, All, Any, Contains, count_by, slice_get, ◌==◌}
use Rattle.std.specs.List.{flat_map}
use Rattle.std.proofs.lemmas.Bool.{cases_eq, eq-eqb, ne_eqb}
use Rattle.std.proofs.lemmas.List.{get_or_default}
use Rattle.std.proofs.lemmas.List.Sums.{sum_by-cons}
use Rattle.partlog.specs.declared.clock_event.ClockEvent.{ClockEvent}
use Rattle.partlog.specs.History.{History}
use Rattle.partlog.specs.Moment.{moment_of}
use Rattle.audit.specs.Histories.{ticks_of}
use Rattle.turn_lock.specs.OfPass.{of_pass}
use Rattle.shared_logs.specs.declared.entries.ClockEntry.{ClockEntry}
use Rattle.shared_logs.specs.Entries.{clock_by}
use Rattle.shared_logs.specs.Histories.{events_of}
use Rattle.shared_logs.specs.Closing.{AreClosed}
use Rattle.shared_logs.specs.Shared.{LogPassView, SharedView}
use Rattle.shared_logs.proofs.Rising.{any_flat, flat_any, has_from, has_on, rises_from, same_rising, some_greatest}
use Rattle.shared_logs.proofs.Ticks.{moment_greatest, own_has, own_there, tick_entry}

-- ---- the pass of a number

bit : Bool → ℕ
bit b = cond b 1 0

module _ (number : ℕ) where
  abbrev IsOne : LogPassView → Bool
  IsOne pass = pass.number == number

  -- where one is counted, it is there
  one_there : (passes : List LogPassView) → count_by IsOne passes ≡ 1 → Any (λ (pass : LogPassView). pass.number ≡ number) passes
  unfolding bit
  one_there [] one = absurd (omega (arith, one))
  one_there (pass ∷ passes) one =
      let count = sum_by-cons (λ (p : LogPassView). bit (IsOne p)) pass passes in
      ⊎_elim
      (λ (e : pass.number ≡ number). (0, pass, omega arith, refl, e))
      (λ (m : pass.number ≢ number).
      let none : bit (IsOne pass) ≡ 0 = ap bit (ne_eqb pass.number number m) in
      let rest = one_there passes (omega (arith, count, none, one)) in
      let less = rest.2 in
      (suc rest.0, rest.1, omega (arith, less), rest.3, rest.4))
      (cases_eq pass.number number)

  -- and what is there is counted
  some_count : (passes : List LogPassView) (k : ℕ) (d : LogPassView) → k < length passes → (get_or passes k d).number ≡ number → 1 ≤ count_by IsOne passes
  unfolding bit
  some_count [] k d less is = absurd (omega (arith, less))
  some_count (pass ∷ passes) zero d less is =
      let count = sum_by-cons (λ (p : LogPassView). bit (IsOne p)) pass passes in
      let here : bit (IsOne pass) ≡ 1 = ap bit (eq-eqb pass.number number is) in
      omega (arith, count, here)
  some_count (pass ∷ passes) (suc k) d less is =
      let count = sum_by-cons (λ (p : LogPassView). bit (IsOne p)) pass passes in
      let rest = some_count passes k d (omega (arith, less)) is in
      omega (arith, count, rest)

  -- so there is no other
  one_place : (passes : List LogPassView) (i k : ℕ) (d e : LogPassView) → count_by IsOne passes ≡ 1 → i < length passes → k < length passes → (get_or passes i d).number ≡ number → (get_or passes k e).number ≡ number → i ≡ k
  unfolding bit
  one_place [] i k d e one a b p q = absurd (omega (arith, a))
  one_place (pass ∷ passes) zero zero d e one a b p q = refl
  one_place (pass ∷ passes) zero (suc k) d e one a b p q =
      let count = sum_by-cons (λ (x : LogPassView). bit (IsOne x)) pass passes in
      let here : bit (IsOne pass) ≡ 1 = ap bit (eq-eqb pass.number number p) in
      let rest = some_count passes k e (omega (arith, b)) q in
      absurd (omega (arith, count, here, rest, one))
  one_place (pass ∷ passes) (suc i) zero d e one a b p q =
      let count = sum_by-cons (λ (x : LogPassView). bit (IsOne x)) pass passes in
      let here : bit (IsOne pass) ≡ 1 = ap bit (eq-eqb pass.number number q) in
      let rest = some_count passes i d (omega (arith, a)) p in
      absurd (omega (arith, count, here, rest, one))
  one_place (pass ∷ passes) (suc i) (suc k) d e one a b p q =
      let count = sum_by-cons (λ (x : LogPassView). bit (IsOne x)) pass passes in
      let rest = some_count passes i d (omega (arith, a)) p in
      ap suc (one_place passes i k d e (omega (arith, count, rest, one)) (omega (arith, a)) (omega (arith, b)) p q)

-- ---- the ticks of all passes

module _ (entries : List ClockEntry) (passes : List LogPassView) (n : ℕ) (own : All (λ (pass : LogPassView). pass.ticked ≡ ticks_of (events_of (of_pass clock_by pass.number entries))) passes)
    (whose : (i : ℕ) (entry : ClockEntry) → slice_get entries i ≡ Some entry → clock_by entry < n)
    (one : (number : ℕ) → number < n → count_by (λ (pass : LogPassView). pass.number == number) passes ≡ 1) where
  abbrev clock_ticks : List ℕ
  clock_ticks = ticks_of (events_of entries)

  its_own : (k : ℕ) (pass : LogPassView) → k < length passes → get_or passes k pass ≡ pass → pass.ticked ≡ ticks_of (events_of (of_pass clock_by pass.number entries))
  its_own k pass less at = subst (λ (p : LogPassView). p.ticked ≡ ticks_of (events_of (of_pass clock_by p.number entries))) at (own k pass less)

  whose_tick : (t : ℕ) → Contains clock_ticks t → Any (λ (pass : LogPassView). Contains pass.ticked t) passes
  whose_tick t c =
      let found = tick_entry t entries (has_from clock_ticks t c) in
      let number = clock_by found.1 in
      let a = one_there number passes (one number (whose found.0 found.1 found.2)) in
      let mine = its_own a.0 a.1 a.2 a.3 in
      let there = own_there t a.1.number found.0 entries found.1 found.2 (sym a.4) found.3 in
      (a.0, a.1, a.2, a.3, subst (λ (ts : List ℕ). Contains ts t) (sym mine) (has_on (ticks_of (events_of (of_pass clock_by a.1.number entries))) t there))

  tick_there : (t : ℕ) → Any (λ (pass : LogPassView). Contains pass.ticked t) passes → Contains clock_ticks t
  tick_there t a =
      let mine = ticks_of (events_of (of_pass clock_by a.1.number entries)) in
      let c = subst (λ (ts : List ℕ). Contains ts t) (its_own a.0 a.1 a.2 a.3) a.4 in
      has_on clock_ticks t (own_has a.1.number entries (of_pass clock_by a.1.number entries) refl t (has_from mine t c))

  pub added : (t : ℕ) → Contains clock_ticks t ↔ Any (λ (pass : LogPassView). Contains pass.ticked t) passes
  added t = (whose_tick t, tick_there t)

  pub latest : moment_of (events_of entries) ≡ fold max 0 (flat_map (λ (pass : LogPassView). pass.ticked) passes)
  latest =
      let f = λ (pass : LogPassView). pass.ticked in
      let all = flat_map f passes in
      let up = some_greatest clock_ticks all (λ t has. has_from all t (any_flat f passes t (whose_tick t (has_on clock_ticks t has)))) in
      let down = some_greatest all clock_ticks (λ t has. has_from clock_ticks t (tick_there t (flat_any f passes t (has_on all t has)))) in
      moment_greatest (events_of entries) ∙ omega (arith, up, down)

-- ---- where one pass alone ticks

-- The clock's ticks are those that the pass of this number added, where no other pass has ticked.
pub ticks_alone : (shared : SharedView) (passes : List LogPassView) (parts : List History) (clock : List ClockEvent) (numbers : List ℕ) → AreClosed shared passes parts clock numbers → (number : ℕ) → number < length passes
    → All (λ (pass : LogPassView). pass.number ≢ number → pass.ticked ≡ []) passes → All (λ (pass : LogPassView). pass.number ≡ number → ticks_of clock ≡ pass.ticked) passes
ticks_alone shared passes parts clock numbers closed number there others k d less is =
    let pass = get_or passes k d in
    let ticks = ticks_of clock in
    let at : get_or passes k pass ≡ pass = get_or_default passes k pass d less in
    same_rising 0 0 ticks pass.ticked (rises_from 0 ticks closed.logs.ticks) (rises_from 0 pass.ticked (closed.rising k d less))
    (λ t has.
    let a = (closed.ticks t).0 (has_on ticks t has) in
    ⊎_elim
    (λ (e : a.1.number ≡ number).
    let same : a.0 ≡ k = one_place number passes a.0 k a.1 d (closed.one number there) a.2 less (ap (λ (p : LogPassView). p.number) a.3 ∙ e) is in
    let it : a.1 ≡ pass = sym a.3 ∙ get_or_default passes a.0 a.1 d a.2 ∙ ap (λ i. get_or passes i d) same in
    has_from pass.ticked t (subst (λ (p : LogPassView). Contains p.ticked t) it a.4))
    (λ (m : a.1.number ≢ number).
    let P : LogPassView → Type 0 = λ p. p.number ≢ number → p.ticked ≡ [] in
    let none : a.1.ticked ≡ [] = subst P a.3 (others a.0 a.1 a.2) m in
    absurd (has_from [] t (subst (λ (ts : List ℕ). Contains ts t) none a.4)))
    (cases_eq a.1.number number))
    (λ t has. has_from ticks t ((closed.ticks t).1 (k, pass, less, at, has_on pass.ticked t has)))
