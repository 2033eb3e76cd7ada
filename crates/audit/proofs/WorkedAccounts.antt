-- A worked account is lawful: three passes waited, and one of them waits still.
use Rattle.std.proofs.Common.{◌≡◌, ◌≢◌, ℕ, zero, suc, ◌<◌, Bool, cond, List, [], ◌∷◌, map, Option, Some, None, unwrap_or, inl, inr, refl, sym, ap, subst, arith}
use Rattle.std.proofs.lemmas.Bool.{ne_eqb}
use Rattle.std.specs.Prelude.{slice_get, count_by}
use Rattle.std.specs.List.{AllByRecursion, flat_map}
use Rattle.std.specs.List.Sorted.{IsStrictlyIncreasing}
use Rattle.partlog.specs.declared.event.PartEvent.{PartEvent}
use Rattle.partlog.specs.declared.event.PartEvent.TheVariants.{Append, Follow, Look, Shrink}
use Rattle.audit.specs.declared.account.Account.{Account}
use Rattle.audit.specs.declared.account.Call.{Call}
use Rattle.audit.specs.declared.account.Point.{Point}
use Rattle.audit.specs.LawfulCall.{IsLawfulCall}
use Rattle.audit.specs.Histories.{Owner, event_at, owners_of, owners_in, clock_owner_of, calls_of, call_of, points_of, all_calls}
use Rattle.audit.specs.IsLawful.{IsLawful, is_point, is_won_by, places_in}
use Rattle.kwire.specs.IsRequest.{IsRequest}
use Rattle.audit.specs.Worked.{fetch_one, fetch_both, expired_call, parked_call, cut_call, three_waits}
use Rattle.kbytes.proofs.Laws.{same_or_not, some_is}
use Rattle.audit.proofs.WorkedCalls.{expired_lawful, parked_lawful, cut_lawful}

abbrev pub owned_by : ℕ → ℕ → Option (Option Owner)
owned_by by seq = Some (Some (record { by = by; seq = seq }))

abbrev pub Found : Account → ℕ → ℕ → ℕ → ℕ → Type 0
Found account part place by seq = (call : Call) × (call_of account by seq ≡ Some call) × (count_by (is_point part place) (points_of call) ≡ 1)

same_pass : (a b by seq : ℕ) → owned_by a b ≡ owned_by by seq → a ≡ by
same_pass a b by seq e = ap (λ (o : Option (Option Owner)). (unwrap_or (unwrap_or o None) (record { by = 0; seq = 0 })).by) e

same_call : (a b by seq : ℕ) → owned_by a b ≡ owned_by by seq → b ≡ seq
same_call a b by seq e = ap (λ (o : Option (Option Owner)). (unwrap_or (unwrap_or o None) (record { by = 0; seq = 0 })).seq) e

pub found : (account : Account) (part place a b by seq : ℕ) (call : Call) → owned_by a b ≡ owned_by by seq → call_of account a b ≡ Some call → count_by (is_point part place) (points_of call) ≡ 1
    → Found account part place by seq
found account part place a b by seq call e there once =
    (call, subst (λ (n : ℕ). call_of account by n ≡ Some call) (same_call a b by seq e) (subst (λ (n : ℕ). call_of account n b ≡ Some call) (same_pass a b by seq e) there), once)

pub nobody : (by seq : ℕ) → ◌≡◌ {A = Option (Option Owner)} None (owned_by by seq) → ⊥
nobody by seq e = absurd cc

pub no_owner : (by seq : ℕ) → ◌≡◌ {A = Option (Option Owner)} (Some None) (owned_by by seq) → ⊥
no_owner by seq e = absurd cc

abbrev IsALook : PartEvent → Type 0
IsALook (Append by seq count len) = ⊥
IsALook (Follow by seq replica offset t) = ⊥
IsALook (Look by seq) = Unit {0}
IsALook (Shrink by replica t) = ⊥

each_is : {X : Type 0} (P : X → Type 0) (xs : List X) (i : ℕ) (x : X) → AllByRecursion P xs → slice_get xs i ≡ Some x → P x
each_is P [] i x all e = absurd cc
each_is P (y ∷ xs) zero x all e = subst P (some_is y x e) all.0
each_is P (y ∷ xs) (suc i) x all e = each_is P xs i x all.1 e

pub rising_none : IsStrictlyIncreasing []
rising_none k lt = absurd (omega (arith, lt))

pub rising_one : (a : ℕ) → IsStrictlyIncreasing (a ∷ [])
rising_one a k lt = absurd (omega (arith, lt))

pub rising_two : (a b : ℕ) → a < b → IsStrictlyIncreasing (a ∷ b ∷ [])
rising_two a b lt zero within = lt
rising_two a b lt (suc k) within = absurd (omega (arith, within))

module _ (one both : List ℕ) where
  abbrev waits : Account
  waits = three_waits one both

  in_first : (place by seq : ℕ) → slice_get (owners_of waits 0) place ≡ owned_by by seq → Found waits 0 place by seq
  in_first zero by seq e = found waits 0 0 0 0 by seq (expired_call one) e refl refl
  in_first (suc zero) by seq e = found waits 0 1 2 0 by seq (cut_call both) e refl refl
  in_first (suc (suc zero)) by seq e = found waits 0 2 0 0 by seq (expired_call one) e refl refl
  in_first (suc (suc (suc zero))) by seq e = found waits 0 3 2 0 by seq (cut_call both) e refl refl
  in_first (suc (suc (suc (suc zero)))) by seq e = found waits 0 4 1 0 by seq (parked_call one) e refl refl
  in_first (suc (suc (suc (suc (suc place))))) by seq e = absurd (nobody by seq e)

  in_second : (place by seq : ℕ) → slice_get (owners_of waits 1) place ≡ owned_by by seq → Found waits 1 place by seq
  in_second zero by seq e = found waits 1 0 2 0 by seq (cut_call both) e refl refl
  in_second (suc place) by seq e = absurd (nobody by seq e)

  in_clock : (place by seq : ℕ) → slice_get (owners_of waits 64) place ≡ owned_by by seq → Found waits 64 place by seq
  in_clock zero by seq e = found waits 64 0 0 0 by seq (expired_call one) e refl refl
  in_clock (suc zero) by seq e = found waits 64 1 2 0 by seq (cut_call both) e refl refl
  in_clock (suc (suc zero)) by seq e = absurd (no_owner by seq e)
  in_clock (suc (suc (suc zero))) by seq e = found waits 64 3 0 0 by seq (expired_call one) e refl refl
  in_clock (suc (suc (suc (suc zero)))) by seq e = found waits 64 4 2 0 by seq (cut_call both) e refl refl
  in_clock (suc (suc (suc (suc (suc zero))))) by seq e = found waits 64 5 1 0 by seq (parked_call one) e refl refl
  in_clock (suc (suc (suc (suc (suc (suc place)))))) by seq e = absurd (nobody by seq e)

  in_none : (part place by seq : ℕ) → suc (suc part) ≢ 64 → slice_get (owners_of waits (suc (suc part))) place ≡ owned_by by seq → ⊥
  in_none part place by seq other e =
      let none : slice_get (owners_in None) place ≡ owned_by by seq =
      subst (λ (b : Bool). slice_get (cond b (map clock_owner_of waits.clock) (owners_in None)) place ≡ owned_by by seq) (ne_eqb (suc (suc part)) 64 other) e in
      nobody by seq none

  entry_left : (part place by seq : ℕ) → slice_get (owners_of waits part) place ≡ owned_by by seq → Found waits part place by seq
  entry_left zero place by seq e = in_first place by seq e
  entry_left (suc zero) place by seq e = in_second place by seq e
  entry_left (suc (suc part)) place by seq e =
      elim (same_or_not (suc (suc part)) 64) [
        | inl same ↦
            subst (λ (p : ℕ). Found waits p place by seq) (sym same) (in_clock place by seq (subst (λ (p : ℕ). slice_get (owners_of waits p) place ≡ owned_by by seq) same e))
        | inr other ↦ absurd (in_none part place by seq other e)
      ]

  -- all entries are looks
  looks_alone : (part place : ℕ) (event : PartEvent) → event_at waits (record { part = part; place = place }) ≡ Some event → IsALook event
  looks_alone zero place event e = each_is IsALook (Look 0 0 ∷ Look 2 0 ∷ Look 0 0 ∷ Look 2 0 ∷ Look 1 0 ∷ []) place event (tt, (tt, (tt, (tt, (tt, tt))))) e
  looks_alone (suc zero) place event e = each_is IsALook (Look 2 0 ∷ []) place event (tt, tt) e
  looks_alone (suc (suc part)) place event e = absurd cc

  abbrev IsOwned : ℕ → ℕ → Point → Type 0
  IsOwned pass seq point = slice_get (owners_of waits point.part) point.place ≡ owned_by pass seq

  no_call : (call : Call) → ◌≡◌ {A = Option Call} None (Some call) → ⊥
  no_call call e = absurd cc

  -- what holds of the three calls holds of every call
  three : (P : ℕ → ℕ → Call → Type 0) → P 0 0 (expired_call one) → P 1 0 (parked_call one) → P 2 0 (cut_call both)
      → (pass seq : ℕ) (call : Call) → call_of waits pass seq ≡ Some call → P pass seq call
  three P a b c zero zero call e = subst (P 0 0) (some_is (expired_call one) call e) a
  three P a b c zero (suc seq) call e = absurd (no_call call e)
  three P a b c (suc zero) zero call e = subst (P 1 0) (some_is (parked_call one) call e) b
  three P a b c (suc zero) (suc seq) call e = absurd (no_call call e)
  three P a b c (suc (suc zero)) zero call e = subst (P 2 0) (some_is (cut_call both) call e) c
  three P a b c (suc (suc zero)) (suc seq) call e = absurd (no_call call e)
  three P a b c (suc (suc (suc pass))) seq call e = absurd (no_call call e)

  abbrev HasOrder : ℕ → ℕ → Type 0
  HasOrder pass part = IsStrictlyIncreasing (places_in part (flat_map points_of (calls_of waits pass)))

  order_first : (part : ℕ) → HasOrder 0 part
  order_first zero = rising_two 0 2 (omega arith)
  order_first (suc part) =
      elim (same_or_not (suc part) 64) [
        | inl same ↦ subst (HasOrder 0) (sym same) (rising_two 0 3 (omega arith))
        | inr other ↦ rw (ne_eqb 0 (suc part) (λ e. omega (arith, e)), ne_eqb 64 (suc part) (λ e. other (sym e))) rising_none
      ]

  order_second : (part : ℕ) → HasOrder 1 part
  order_second zero = rising_one 4
  order_second (suc part) =
      elim (same_or_not (suc part) 64) [
        | inl same ↦ subst (HasOrder 1) (sym same) (rising_one 5)
        | inr other ↦ rw (ne_eqb 0 (suc part) (λ e. omega (arith, e)), ne_eqb 64 (suc part) (λ e. other (sym e))) rising_none
      ]

  order_third : (part : ℕ) → HasOrder 2 part
  order_third zero = rising_two 1 3 (omega arith)
  order_third (suc zero) = rising_one 0
  order_third (suc (suc part)) =
      elim (same_or_not (suc (suc part)) 64) [
        | inl same ↦ subst (HasOrder 2) (sym same) (rising_two 1 4 (omega arith))
        | inr other ↦ rw (ne_eqb 0 (suc (suc part)) (λ e. omega (arith, e)), ne_eqb 1 (suc (suc part)) (λ e. omega (arith, e)), ne_eqb 64 (suc (suc part)) (λ e. other (sym e))) rising_none
      ]

  in_order : (pass part : ℕ) → HasOrder pass part
  in_order zero part = order_first part
  in_order (suc zero) part = order_second part
  in_order (suc (suc zero)) part = order_third part
  in_order (suc (suc (suc pass))) part = rising_none

  counted : (winner : ℕ) → unwrap_or (slice_get waits.wins winner) 0 ≡ count_by (is_won_by winner) (all_calls waits)
  counted zero = refl
  counted (suc winner) = rw (ne_eqb 0 (suc winner) (λ e. omega (arith, e))) refl

  pub waits_lawful : IsRequest one fetch_one → IsRequest both fetch_both → IsLawful (three_waits one both)
  waits_lawful first second = record {
    entries = record {
      left = entry_left;
      points = three (λ pass seq call. AllByRecursion (IsOwned pass seq) (points_of call)) (refl, (refl, (refl, (refl, tt)))) (refl, (refl, tt)) (refl, (refl, (refl, (refl, (refl, tt)))));
      ticks = rising_two 0 100 (omega arith);
      shrinks = λ part place by t replica e. absurd (looks_alone part place (Shrink by replica t) e);
      follows = λ part place by seq offset t replica e. absurd (looks_alone part place (Follow by seq replica offset t) e);
      earlier = λ part place by seq offset t replica e. absurd (looks_alone part place (Follow by seq replica offset t) e);
    };
    order = in_order;
    logs = record { followers = refl; whole = (refl, (refl, tt)) };
    calls = three (λ pass seq call. IsLawfulCall waits call) (expired_lawful one both first) (parked_lawful one both first) (cut_lawful one both second);
    wins = counted;
    ends = ((refl, (tt, tt), tt), ((refl, ((refl, refl), tt), tt), ((refl, ((refl, refl), tt), tt), tt)));
  }

  -- with a winner's count that is one less, it isn't
  pub miscounted : IsLawful (record (three_waits one both) { wins = 1 ∷ [] }) → ⊥
  miscounted lawful = let counts : 1 ≡ 2 = lawful.wins 0 in absurd (omega (arith, counts))
