-- Marked: seen by the mark; with the last one the owner is Checking without readings.
use Rattle.std.proofs.Common.{⊎_elim, ◌≡◌, ◌≢◌, ℕ, zero, suc, ◌<◌, ◌≤◌, Bool, true, false, cond, sym, refl, subst, ◌∙◌, arith}
use Rattle.std.specs.Prelude.{◌==◌}
use Rattle.std.proofs.lemmas.Bool.{eqb-true, cases_lt}
use Rattle.room_core.specs.declared.parts.Stage.{Stage}
use Rattle.room_core.specs.declared.parts.Stage.TheVariants.{Listing, Checking}
use Rattle.room_core.specs.Description.{IsMark, needs_of, marked_gauge}
use Rattle.room_core.specs.Duty.{IsOpen, IsOnDuty}
use Rattle.room_core.specs.Sound.{Agree}
use Rattle.room_core.specs.Passes.{CanSeeMark, seeing_mark, caller_sees_mark, seen_with, all_seen, all_below}
use Rattle.room_core.specs.Carried.{IsUpheld}
use Rattle.room_core.specs.State.{State}
use Rattle.room_core.proofs.Facts.{IsListed}
use Rattle.room_core.proofs.Puts.{at-put}
use Rattle.room_core.proofs.Tests.{and_left, and_right}
use Rattle.room_core.proofs.Known.{of_either, unread_below, owner_forgets}
use Rattle.room_core.proofs.Finding.{owner_tally, owner_time}
use Rattle.room_core.proofs.Kept.{IsKept, kept_of, carried}
use Rattle.room_core.proofs.Callers.{CallerStays, kept_by_caller}
use Rattle.room_core.proofs.Winners.{caller_wins_nothing}

pub all_at : (f : ℕ → Bool) (n i : ℕ) → all_below f n ≡ true → i < n → f i ≡ true
unfolding all_below
all_at f zero i e l = absurd (omega arith)
all_at f (suc n) i e l =
    ⊎_elim
    (λ (m : i < n). all_at f n i (and_left (all_below f n) (f n) e) m)
    (λ (m : n ≤ i). let q : n ≡ i = omega arith in subst (λ j. f j ≡ true) q (and_right (all_below f n) (f n) e))
    (cases_lt i n)

not_listing : (b : Bool) → cond b Checking Listing ≢ Listing → b ≡ true
not_listing true n = refl
not_listing false n = absurd (n refl)

module _ (s : State) (pass at : ℕ) (k : IsKept s) (can : CanSeeMark s pass at) where
  seen : (i : ℕ) → IsOpen s pass → i ≤ 64 → seen_with (s.caller pass) at (s.marks pass at) i ≡ true → IsListed s (marked_gauge s.shape (s.description pass) i) pass
  seen =
      at-put (s.caller pass).seen at (cond (s.marks pass at == (s.caller pass).generation) true ((s.caller pass).seen at)) (λ j b. IsOpen s pass → j ≤ 64 → b ≡ true → IsListed s (marked_gauge s.shape (s.description pass) j) pass)
      (of_either (λ b. IsOpen s pass → at ≤ 64 → b ≡ true → IsListed s (marked_gauge s.shape (s.description pass) at) pass) (s.marks pass at == (s.caller pass).generation) true ((s.caller pass).seen at)
      (λ e o l t. k.listings.marked pass at o l (eqb-true _ _ e ∙ sym (k.owners.generation pass))) (λ e. k.listings.seen pass at))
      (λ j n. k.listings.seen pass j)

  busy : (s.caller pass).stage ≢ Stage.Idle
  busy e = let l : (s.caller pass).stage ≡ Listing = can.2 in cc

  few : needs_of (s.description pass) ≤ 64
  few = (k.owners.operation pass busy).few

  complete : (i : ℕ) → IsOpen s pass → all_seen (s.caller pass).description (seen_with (s.caller pass) at (s.marks pass at)) ≡ true → IsMark (s.description pass) i → IsListed s (marked_gauge s.shape (s.description pass) i) pass
  complete i o e m =
      ⊎_elim
      (λ (l : i < needs_of (s.description pass)).
      seen i o (omega (arith, few))
      (all_at (seen_with (s.caller pass) at (s.marks pass at)) (needs_of (s.caller pass).description) i (and_left _ _ e) (omega (arith, k.owners.description pass 2))))
      (λ (q : i ≡ 64). seen i o (omega arith) (subst (λ j. seen_with (s.caller pass) at (s.marks pass at) j ≡ true) (sym q) (and_right (all_below (seen_with (s.caller pass) at (s.marks pass at)) (needs_of (s.caller pass).description)) _ e)))
      m

  duty : IsOnDuty (s.caller pass).stage → IsOnDuty (caller_sees_mark (s.caller pass) at (s.marks pass at)).stage
  duty d = of_either IsOnDuty (all_seen (s.caller pass).description (seen_with (s.caller pass) at (s.marks pass at))) Checking Listing (λ e. tt) (λ e. tt)

  listing : Agree Listing (s.session pass).phase
  listing = subst (λ st. Agree st (s.session pass).phase) can.2 (k.owners.stage pass)

  pub stays : CallerStays s pass (caller_sees_mark (s.caller pass) at (s.marks pass at))
  stays = record {
    owed = k.debts.owed pass;
    owes = λ g l h. h;
    greatest = k.readings.greatest pass;
    readings = unread_below s.value;
    generation = refl;
    description = λ i. refl;
    stage = of_either (λ st. Agree st (s.session pass).phase) (all_seen (s.caller pass).description (seen_with (s.caller pass) at (s.marks pass at))) Checking Listing (λ e. listing) (λ e. listing);
    busy = λ b. busy;
    seen = seen;
    complete = λ i o n m. complete i o (not_listing (all_seen (s.caller pass).description (seen_with (s.caller pass) at (s.marks pass at))) n) m;
    tally = λ o. owner_tally s.shape (s.description pass) s.value (s.caller pass) (caller_sees_mark (s.caller pass) at (s.marks pass at)) duty (owner_forgets (s.caller pass).stage _ (s.caller pass).readings s.value (k.readings.owner pass));
    time = λ o. owner_time s.shape (s.description pass) s.value (s.caller pass) (caller_sees_mark (s.caller pass) at (s.marks pass at)) duty (owner_forgets (s.caller pass).stage _ (s.caller pass).readings s.value (k.readings.owner pass));
    taken = refl;
  }

pub keeps : (s : State) (pass at : ℕ) → IsUpheld s → CanSeeMark s pass at → IsUpheld (seeing_mark s pass at)
keeps s pass at c can =
    carried _ (kept_by_caller s pass _ (kept_of s c) (stays s pass at (kept_of s c) can)) (caller_wins_nothing s pass _ refl refl c.sound.wins)
