-- Worked accounts with a follower that was taken out.
use Rattle.std.proofs.Common.{◌≡◌, ◌≢◌, ℕ, zero, suc, ◌+◌, ◌<◌, ◌≤◌, ℤ, pos, Bool, cond, List, [], ◌∷◌, ◌++◌, length, map, take, Contains, Option, Some, None, inl, inr, refl, sym, ap, subst, ◌∙◌, arith}
use Rattle.std.proofs.lemmas.Bool.{le-ltb, ne_eqb}
use Rattle.std.proofs.lemmas.List.{take_all}
use Rattle.std.specs.Prelude.{count_by, slice_get, slice_index_or}
use Rattle.std.specs.List.{AllByRecursion, flat_map}
use Rattle.std.specs.List.Sorted.{IsStrictlyIncreasing}
use Rattle.kbatch.specs.Batch.{IsBatch}
use Rattle.kbatch.specs.Stamp.{stamped}
use Rattle.kbatch.specs.declared.record.Record.{Record}
use Rattle.partlog.specs.declared.event.PartEvent.{PartEvent}
use Rattle.partlog.specs.declared.event.PartEvent.TheVariants.{Append, Follow, Look, Shrink}
use Rattle.kanswer.proofs.Laws.{batch_sized}
use Rattle.kanswer.specs.Decisions.{Outcome, Put, append_outcome}
use Rattle.kanswer.specs.declared.accepted.Accepted.TheVariants.{Appended}
use Rattle.kbytes.proofs.Laws.{same_or_not, some_is}
use Rattle.kwire.specs.IsRequest.{IsRequest}
use Rattle.audit.specs.declared.account.Account.{Account}
use Rattle.audit.specs.declared.account.Call.{Call}
use Rattle.audit.specs.declared.account.PartAccount.{PartAccount}
use Rattle.audit.specs.declared.account.Point.{Point}
use Rattle.audit.specs.Histories.{AreNotLater, HadLagged, IsToldMoment, all_calls, before_point, call_of, calls_of, clock_owner_of, clock_part, event_at, owners_in, owners_of, points_of, ticks_of}
use Rattle.audit.specs.IsLawful.{HasEntries, IsLawful, is_point, is_won_by, places_in}
use Rattle.audit.specs.LawfulCall.{AsksLog, IsEntry, IsLawfulCall}
use Rattle.audit.specs.Worked.{at, back_at, call_at, leave_at, left_alone, left_and_back, other_leaves, produce_call, produce_of}
use Rattle.audit.proofs.WorkedAccounts.{Found, found, no_owner, nobody, owned_by, rising_none, rising_one, rising_two}
use Rattle.audit.proofs.WorkedProduces.{asked, put}

no_call : (call : Call) → ◌≡◌ {A = Option Call} None (Some call) → ⊥
no_call call e = absurd cc

-- an entry behind those that there are, of a partition or of the clock
module _ (account : Account) (one_part : (part : ℕ) → slice_get account.parts (suc part) ≡ None) where
  owner_none : (part place by seq : ℕ) → suc part ≢ 64 → slice_get (owners_of account (suc part)) place ≡ owned_by by seq → ⊥
  owner_none part place by seq other e =
      let none : slice_get (owners_in None) place ≡ owned_by by seq =
      sym (ap (λ (o : Option PartAccount). slice_get (owners_in o) place) (one_part part))
      ∙ subst (λ (b : Bool). slice_get (cond b (map clock_owner_of account.clock) (owners_in (slice_get account.parts (suc part)))) place ≡ owned_by by seq) (ne_eqb (suc part) 64 other) e in
      nobody by seq none

-- ---- one that stays out

module _ (plain batch : List ℕ) (one : Record) (is_batch : IsBatch batch (one ∷ [])) where
  abbrev alone : Account
  alone = left_alone plain batch

  sized : length (stamped 0 batch) ≡ length batch
  sized = batch_sized batch (one ∷ []) is_batch 0

  -- the produce

  room : append_outcome (pos 3) 0 0 1 batch (before_point alone (at 0 0)) ≡ record { result = Appended 0 0 1; entry = Put 1 batch }
  room = rw (le-ltb 67108864 (0 + length batch) (omega (arith, is_batch.most))) refl

  all_bytes : take (length batch) (take (0 + length batch) (stamped 0 batch)) ≡ stamped 0 batch
  all_bytes =
      ap (take (length batch)) (take_all (0 + length batch) (stamped 0 batch) (omega (arith, sized))) ∙ take_all (length batch) (stamped 0 batch) (omega (arith, sized))

  entry : IsEntry alone (at 0 0) (Put 1 batch)
  entry = ap (λ (bytes : List ℕ). record { base = 0; count = 1; bytes = bytes } ∷ []) all_bytes

  step : AsksLog alone 0 (append_outcome (pos 3) 0 0 1 batch) (put 0 0)
  step = record {
    point = at 0 0;
    left = refl;
    there = refl;
    result = ap (λ (o : Outcome). o.result) (sym room);
    entry = subst (λ (o : Outcome). IsEntry alone (at 0 0) o.entry) (sym room) entry;
  }

  produce_lawful : IsRequest plain (produce_of (pos 1) batch) → IsLawfulCall alone (produce_call plain 0)
  produce_lawful is = inl (record {
    whole = record {
      request = produce_of (pos 1) batch;
      steps = put 0 0 ∷ [];
      looks = [];
      accepted = record { asked = is; decisions = asked 0 batch ∷ []; decided = (inr (one ∷ [], is_batch, refl), tt); each = (step, tt) };
      entries = record { points = refl; clock = refl };
    };
    completed = (refl, refl, refl);
  })

  -- the entries

  in_part : (place by seq : ℕ) → slice_get (owners_of alone 0) place ≡ owned_by by seq → Found alone 0 place by seq
  in_part zero by seq e = found alone 0 0 0 0 by seq (produce_call plain 0) e refl refl
  in_part (suc zero) by seq e = absurd (no_owner by seq e)
  in_part (suc (suc place)) by seq e = absurd (nobody by seq e)

  in_clock : (place by seq : ℕ) → slice_get (owners_of alone 64) place ≡ owned_by by seq → ⊥
  in_clock zero by seq e = no_owner by seq e
  in_clock (suc place) by seq e = nobody by seq e

  entry_left : (part place by seq : ℕ) → slice_get (owners_of alone part) place ≡ owned_by by seq → Found alone part place by seq
  entry_left zero place by seq e = in_part place by seq e
  entry_left (suc part) place by seq e =
      elim (same_or_not (suc part) 64) [
        | inl same ↦ absurd (in_clock place by seq (subst (λ (p : ℕ). slice_get (owners_of alone p) place ≡ owned_by by seq) same e))
        | inr other ↦ absurd (owner_none alone (λ q. refl) part place by seq other e)
      ]

  abbrev Lagged : ℕ → ℕ → ℕ → ℤ → Type 0
  Lagged part place t replica = HadLagged (slice_get alone.parts part) place t replica × Contains (ticks_of alone.clock) t

  the_leave : Lagged 0 1 30000 (pos 1)
  the_leave = (record { follower = (omega arith, omega arith); in_sync = refl; behind = omega arith; late = omega arith }, (0, omega arith, refl))

  left : (part place by t : ℕ) (replica : ℤ) → event_at alone (record { part = part; place = place }) ≡ Some (Shrink by replica t) → Lagged part place t replica
  left zero zero by t replica e = absurd cc
  left zero (suc zero) by t replica e =
      let who : pos 1 ≡ replica = cc in
      let when : 30000 ≡ t = cc in
      subst (λ (n : ℕ). Lagged 0 1 n replica) when (subst (Lagged 0 1 30000) who the_leave)
  left zero (suc (suc place)) by t replica e = absurd cc
  left (suc part) place by t replica e = absurd cc

  no_fetch : (part place by seq offset t : ℕ) (replica : ℤ) → event_at alone (record { part = part; place = place }) ≡ Some (Follow by seq replica offset t) → ⊥
  no_fetch zero zero by seq offset t replica e = cc
  no_fetch zero (suc zero) by seq offset t replica e = cc
  no_fetch zero (suc (suc place)) by seq offset t replica e = cc
  no_fetch (suc part) place by seq offset t replica e = cc

  -- the one call

  the_call : (P : ℕ → ℕ → Call → Type 0) → P 0 0 (produce_call plain 0) → (pass seq : ℕ) (call : Call) → call_of alone pass seq ≡ Some call → P pass seq call
  the_call P here zero zero call e = subst (P 0 0) (some_is (produce_call plain 0) call e) here
  the_call P here zero (suc seq) call e = absurd (no_call call e)
  the_call P here (suc pass) seq call e = absurd (no_call call e)

  in_order : (pass part : ℕ) → IsStrictlyIncreasing (places_in part (flat_map points_of (calls_of alone pass)))
  in_order zero zero = rising_one 0
  in_order zero (suc part) = rw (ne_eqb 0 (suc part) (λ e. omega (arith, e))) rising_none
  in_order (suc pass) part = rising_none

  stays_lawful : IsRequest plain (produce_of (pos 1) batch) → IsLawful (left_alone plain batch)
  stays_lawful is = record {
    entries = record {
      left = entry_left;
      points = the_call (λ pass seq call. AllByRecursion (λ point. slice_get (owners_of alone point.part) point.place ≡ owned_by pass seq) (points_of call)) (refl, tt);
      ticks = rising_two 0 30000 (omega arith);
      shrinks = left;
      follows = λ part place by seq offset t replica e. absurd (no_fetch part place by seq offset t replica e);
      earlier = λ part place by seq offset t replica e. absurd (no_fetch part place by seq offset t replica e);
    };
    order = in_order;
    logs = record { followers = refl; whole = (omega (arith, sized), tt) };
    calls = the_call (λ pass seq call. IsLawfulCall alone call) (produce_lawful is);
    wins = λ winner. refl;
    ends = ((refl, (tt, tt), tt), tt);
  }

pub alone_lawful : (plain batch : List ℕ) (one : Record) → IsBatch batch (one ∷ []) → IsRequest plain (produce_of (pos 1) batch) → IsLawful (left_alone plain batch)
alone_lawful plain batch one is_batch is = stays_lawful plain batch one is_batch is

-- ---- one that comes back

module _ (one : List ℕ) where
  abbrev back : Account
  back = left_and_back one (leave_at 30000) (back_at 30000)

  back_part : (place by seq : ℕ) → slice_get (owners_of back 0) place ≡ owned_by by seq → Found back 0 place by seq
  back_part zero by seq e = found back 0 0 0 0 by seq (call_at one (at 0 0 ∷ [])) e refl refl
  back_part (suc zero) by seq e = absurd (no_owner by seq e)
  back_part (suc (suc zero)) by seq e = found back 0 2 1 1 by seq (call_at one (at 0 2 ∷ [])) e refl refl
  back_part (suc (suc (suc place))) by seq e = absurd (nobody by seq e)

  back_clock : (place by seq : ℕ) → slice_get (owners_of back 64) place ≡ owned_by by seq → Found back 64 place by seq
  back_clock zero by seq e = absurd (no_owner by seq e)
  back_clock (suc zero) by seq e = absurd (no_owner by seq e)
  back_clock (suc (suc zero)) by seq e = found back 64 2 1 0 by seq (call_at one (at clock_part 2 ∷ [])) e refl refl
  back_clock (suc (suc (suc place))) by seq e = absurd (nobody by seq e)

  back_left : (part place by seq : ℕ) → slice_get (owners_of back part) place ≡ owned_by by seq → Found back part place by seq
  back_left zero place by seq e = back_part place by seq e
  back_left (suc part) place by seq e =
      elim (same_or_not (suc part) 64) [
        | inl same ↦
            subst (λ (p : ℕ). Found back p place by seq) (sym same) (back_clock place by seq (subst (λ (p : ℕ). slice_get (owners_of back p) place ≡ owned_by by seq) same e))
        | inr other ↦ absurd (owner_none back (λ q. refl) part place by seq other e)
      ]

  abbrev Owned : ℕ → ℕ → Call → Type 0
  Owned pass seq call = AllByRecursion (λ point. slice_get (owners_of back point.part) point.place ≡ owned_by pass seq) (points_of call)

  back_points : (pass seq : ℕ) (call : Call) → call_of back pass seq ≡ Some call → Owned pass seq call
  back_points zero zero call e = subst (Owned 0 0) (some_is (call_at one (at 0 0 ∷ [])) call e) (refl, tt)
  back_points zero (suc seq) call e = absurd (no_call call e)
  back_points (suc zero) zero call e = subst (Owned 1 0) (some_is (call_at one (at clock_part 2 ∷ [])) call e) (refl, tt)
  back_points (suc zero) (suc zero) call e = subst (Owned 1 1) (some_is (call_at one (at 0 2 ∷ [])) call e) (refl, tt)
  back_points (suc zero) (suc (suc seq)) call e = absurd (no_call call e)
  back_points (suc (suc pass)) seq call e = absurd (no_call call e)

  abbrev BackLagged : ℕ → ℕ → ℕ → ℤ → Type 0
  BackLagged part place t replica = HadLagged (slice_get back.parts part) place t replica × Contains (ticks_of back.clock) t

  its_leave : BackLagged 0 1 30000 (pos 1)
  its_leave = (record { follower = (omega arith, omega arith); in_sync = refl; behind = omega arith; late = omega arith }, (1, omega arith, refl))

  back_shrinks : (part place by t : ℕ) (replica : ℤ) → event_at back (record { part = part; place = place }) ≡ Some (Shrink by replica t) → BackLagged part place t replica
  back_shrinks zero zero by t replica e = absurd cc
  back_shrinks zero (suc zero) by t replica e =
      let who : pos 1 ≡ replica = cc in
      let when : 30000 ≡ t = cc in
      subst (λ (n : ℕ). BackLagged 0 1 n replica) when (subst (BackLagged 0 1 30000) who its_leave)
  back_shrinks zero (suc (suc zero)) by t replica e = absurd cc
  back_shrinks zero (suc (suc (suc place))) by t replica e = absurd cc
  back_shrinks (suc part) place by t replica e = absurd cc

  -- what is asked of a fetch
  abbrev Timely : ℕ → ℕ → ℕ → Type 0
  Timely by seq t = IsToldMoment back.clock t × ((before : ℕ) (call : Call) → before < seq → call_of back by before ≡ Some call → AreNotLater back.clock t (points_of call))

  its_fetch : Timely 1 1 30000
  its_fetch = (inr (1, omega arith, refl), before_it)
    where
      before_it : (before : ℕ) (call : Call) → before < 1 → call_of back 1 before ≡ Some call → AreNotLater back.clock 30000 (points_of call)
      before_it zero call lt e = subst (λ (c : Call). AreNotLater back.clock 30000 (points_of c)) (some_is (call_at one (at clock_part 2 ∷ [])) call e) ((λ _. omega arith), tt)
      before_it (suc before) call lt e = absurd (omega (arith, lt))

  back_fetches : (part place by seq offset t : ℕ) (replica : ℤ) → event_at back (record { part = part; place = place }) ≡ Some (Follow by seq replica offset t) → Timely by seq t
  back_fetches zero zero by seq offset t replica e = absurd cc
  back_fetches zero (suc zero) by seq offset t replica e = absurd cc
  back_fetches zero (suc (suc zero)) by seq offset t replica e =
      let pass : 1 ≡ by = cc in
      let number : 1 ≡ seq = cc in
      let when : 30000 ≡ t = cc in
      subst (Timely by seq) when (subst (λ (n : ℕ). Timely by n 30000) number (subst (λ (n : ℕ). Timely n 1 30000) pass its_fetch))
  back_fetches zero (suc (suc (suc place))) by seq offset t replica e = absurd cc
  back_fetches (suc part) place by seq offset t replica e = absurd cc

  rising_three : IsStrictlyIncreasing (0 ∷ 29999 ∷ 30000 ∷ [])
  rising_three zero lt = omega arith
  rising_three (suc zero) lt = omega arith
  rising_three (suc (suc k)) lt = absurd (omega (arith, lt))

  pub right_entries : HasEntries (left_and_back one (leave_at 30000) (back_at 30000))
  right_entries = record {
    left = back_left;
    points = back_points;
    ticks = rising_three;
    shrinks = back_shrinks;
    follows = λ part place by seq offset t replica e. (back_fetches part place by seq offset t replica e).0;
    earlier = λ part place by seq offset t replica e. (back_fetches part place by seq offset t replica e).1;
  }

  -- ---- others that aren't right

  never_told : Contains (ticks_of back.clock) 30001 → ⊥
  never_told has = none has.0 has.1 has.2
    where
      none : (k : ℕ) → k < 2 → slice_index_or (ticks_of back.clock) k 30001 ≡ 30001 → ⊥
      none zero lt e = absurd (omega (arith, e))
      none (suc zero) lt e = absurd (omega (arith, e))
      none (suc (suc k)) lt e = absurd (omega (arith, lt))

  pub left_early : HasEntries (left_and_back one (leave_at 29999) (back_at 30000)) → ⊥
  left_early h = let late : 30000 ≤ 29999 = (h.shrinks 0 1 0 29999 (pos 1) refl).0.late in absurd (omega (arith, late))

  pub left_untold : HasEntries (left_and_back one (leave_at 30001) (back_at 30000)) → ⊥
  left_untold h = never_told (h.shrinks 0 1 0 30001 (pos 1) refl).1

  pub another_left : HasEntries (left_and_back one other_leaves (back_at 30000)) → ⊥
  another_left h = let follower : 2 ≤ 1 = (h.shrinks 0 1 0 30000 (pos 2) refl).0.follower.1 in absurd (omega (arith, follower))

  pub fetched_early : HasEntries (left_and_back one (leave_at 30000) (back_at 29999)) → ⊥
  fetched_early h = let late : 30000 ≤ 29999 = (h.earlier 0 2 1 1 1 29999 (pos 1) refl 0 (call_at one (at clock_part 2 ∷ [])) (omega arith) refl).0 refl in absurd (omega (arith, late))

  pub fetched_untold : HasEntries (left_and_back one (leave_at 30000) (back_at 30001)) → ⊥
  fetched_untold h = elim (h.follows 0 2 1 1 1 30001 (pos 1) refl) [ inl none ↦ absurd (omega (arith, none)) | inr told ↦ never_told told ]
