-- Leave, by the owner: with all wanted readings taken, who leaves didn't find the operation.
use Rattle.std.proofs.Common.{◌≡◌, ℕ, ◌+◌, ◌*◌, ◌<◌, ◌≤◌, max, false, sym, refl, subst, arith, Option, Some}
use Rattle.std.specs.Prelude.{◌||◌}
use Rattle.std.proofs.lemmas.Bool.{leb-false}
use Rattle.room_core.specs.declared.parts.Stage.TheVariants.{Checking, Waiting}
use Rattle.room_core.specs.Put.{put}
use Rattle.room_core.specs.Gauges.{clock_of}
use Rattle.room_core.specs.Description.{needs_of, gauge_of, least_of, deadline_of, tally}
use Rattle.room_core.specs.Readings.{known, read_only}
use Rattle.room_core.specs.Duty.{OwnerFinds, FindsTally, FindsTime, owner_readings}
use Rattle.room_core.specs.Sound.{Agree}
use Rattle.room_core.specs.Checks.{CanLeavePass, pass_leaving, caller_leaves, is_satisfied, is_overdue, AreRead, IsRead}
use Rattle.room_core.specs.Carried.{IsUpheld}
use Rattle.room_core.specs.State.{State}
use Rattle.room_core.proofs.Puts.{at-put}
use Rattle.room_core.proofs.Tallies.{tally_rises, tally_agrees}
use Rattle.room_core.proofs.Tests.{or_false}
use Rattle.room_core.proofs.Known.{AreBelow, of_either, taken_below, known_taken, known_read, owner_checking}
use Rattle.room_core.proofs.Finding.{owner_tally, owner_time}
use Rattle.room_core.proofs.Kept.{IsKept, kept_of, carried}
use Rattle.room_core.proofs.Callers.{CallerStays, kept_by_caller}
use Rattle.room_core.proofs.Winners.{caller_wins_nothing}

-- a check that has read all that it wants and isn't satisfied didn't find the operation before
pub not_satisfied : (sure words value : ℕ → ℕ) (readings : ℕ → Option ℕ) (gauge : ℕ) → AreBelow readings value
    → ((at : ℕ) → at < 3 + 3 * needs_of words → words at ≡ sure at) → AreRead readings gauge words
    → is_satisfied words (put readings gauge (Some (value gauge))) ≡ false → FindsTally sure value readings → ⊥
not_satisfied sure words value readings gauge below same read e found =
    let least : words 0 ≡ sure 0 = same 0 (omega arith) in
    let agree : tally words (known readings value) ≡ tally sure (known readings value) = tally_agrees words sure (known readings value) same in
    let rise : tally words (known readings value) ≤ tally words (read_only (put readings gauge (Some (value gauge)))) = tally_rises words (known readings value) (read_only (put readings gauge (Some (value gauge)))) (λ i l. known_read readings value gauge below (gauge_of words i) (read i l)) in
    omega (arith, found, leb-false (least_of words) (tally words (read_only (put readings gauge (Some (value gauge))))) e)

pub not_overdue : (clock : ℕ) (sure words value : ℕ → ℕ) (readings : ℕ → Option ℕ) (gauge : ℕ) → AreBelow readings value
    → words 1 ≡ sure 1 → IsRead readings gauge clock
    → deadline_of sure ≤ known readings value clock → deadline_of words ≤ read_only (put readings gauge (Some (value gauge))) clock
not_overdue clock sure words value readings gauge below same read found = omega (arith, found, known_read readings value gauge below clock read)

module _ (s : State) (pass gauge : ℕ) (k : IsKept s) (can : CanLeavePass s pass gauge) where
  checking : Agree Checking (s.session pass).phase
  checking = subst (λ st. Agree st (s.session pass).phase) can.2 (k.owners.stage pass)

  knows : (g : ℕ) → known (owner_readings (s.caller pass).stage (s.caller pass).readings) s.value g ≤ known (owner_readings Checking (put (s.caller pass).readings gauge (Some (s.value gauge)))) s.value g
  knows g =
      subst (λ q. known (owner_readings (s.caller pass).stage (s.caller pass).readings) s.value g ≤ known q s.value g)
      (sym (owner_checking Checking (put (s.caller pass).readings gauge (Some (s.value gauge))) refl))
      (subst (λ q. known q s.value g ≤ known (put (s.caller pass).readings gauge (Some (s.value gauge))) s.value g)
      (sym (owner_checking (s.caller pass).stage (s.caller pass).readings can.2))
      (known_taken (s.caller pass).readings s.value gauge (k.readings.owner pass) g))

  unsatisfied : (is_satisfied (s.caller pass).description (put (s.caller pass).readings gauge (Some (s.value gauge))) || is_overdue s.shape (s.caller pass).description (put (s.caller pass).readings gauge (Some (s.value gauge)))) ≡ false → OwnerFinds (FindsTally (s.description pass) s.value) (s.caller pass) → ⊥
  unsatisfied e f =
      not_satisfied (s.description pass) (s.caller pass).description s.value (s.caller pass).readings gauge (k.readings.owner pass)
      (λ at l. sym (k.owners.description pass at)) can.3 (or_false (is_satisfied (s.caller pass).description (put (s.caller pass).readings gauge (Some (s.value gauge)))) _ e).0
      (subst (FindsTally (s.description pass) s.value) (owner_checking (s.caller pass).stage (s.caller pass).readings can.2) f.found)

  in_time : (is_satisfied (s.caller pass).description (put (s.caller pass).readings gauge (Some (s.value gauge))) || is_overdue s.shape (s.caller pass).description (put (s.caller pass).readings gauge (Some (s.value gauge)))) ≡ false → OwnerFinds (FindsTime s.shape (s.description pass) s.value) (s.caller pass) → ⊥
  in_time e f =
      let d : deadline_of (s.caller pass).description ≤ read_only (put (s.caller pass).readings gauge (Some (s.value gauge))) (clock_of s.shape) =
      not_overdue (clock_of s.shape) (s.description pass) (s.caller pass).description s.value (s.caller pass).readings gauge (k.readings.owner pass)
      (sym (k.owners.description pass 1)) can.4
      (subst (FindsTime s.shape (s.description pass) s.value) (owner_checking (s.caller pass).stage (s.caller pass).readings can.2) f.found) in
      omega (arith, leb-false (deadline_of (s.caller pass).description) (read_only (put (s.caller pass).readings gauge (Some (s.value gauge))) (clock_of s.shape)) (or_false (is_satisfied (s.caller pass).description (put (s.caller pass).readings gauge (Some (s.value gauge)))) _ e).1)

  pub stays : CallerStays s pass (caller_leaves s.shape (s.caller pass) gauge (s.value gauge))
  stays = record {
    owed = k.debts.owed pass;
    owes = λ g l h. h;
    greatest =
        at-put (s.caller pass).greatest gauge (max ((s.caller pass).greatest gauge) (s.value gauge)) (λ g x. x ≤ s.value g)
        (omega (arith, k.readings.greatest pass gauge)) (λ g n. k.readings.greatest pass g);
    readings = taken_below (s.caller pass).readings s.value gauge (k.readings.owner pass);
    generation = refl;
    description = λ at. refl;
    stage = of_either (λ st. Agree st (s.session pass).phase) (is_satisfied (s.caller pass).description (put (s.caller pass).readings gauge (Some (s.value gauge))) || is_overdue s.shape (s.caller pass).description (put (s.caller pass).readings gauge (Some (s.value gauge)))) Checking Waiting (λ e. checking) (λ e. checking);
    busy = λ b e. let l : (s.caller pass).stage ≡ Checking = can.2 in cc;
    seen = k.listings.seen pass;
    complete = λ i o n. k.listings.complete pass i o (λ e. let l : (s.caller pass).stage ≡ Checking = can.2 in cc);
    tally = λ o f.
        of_either (λ st. OwnerFinds (FindsTally (s.description pass) s.value) (record (caller_leaves s.shape (s.caller pass) gauge (s.value gauge)) { stage = st })) (is_satisfied (s.caller pass).description (put (s.caller pass).readings gauge (Some (s.value gauge))) || is_overdue s.shape (s.caller pass).description (put (s.caller pass).readings gauge (Some (s.value gauge)))) Checking Waiting
        (λ e. owner_tally s.shape (s.description pass) s.value (s.caller pass) (record (caller_leaves s.shape (s.caller pass) gauge (s.value gauge)) { stage = Checking }) (λ d. tt) knows f)
        (λ e. absurd (unsatisfied e f));
    time = λ o f.
        of_either (λ st. OwnerFinds (FindsTime s.shape (s.description pass) s.value) (record (caller_leaves s.shape (s.caller pass) gauge (s.value gauge)) { stage = st })) (is_satisfied (s.caller pass).description (put (s.caller pass).readings gauge (Some (s.value gauge))) || is_overdue s.shape (s.caller pass).description (put (s.caller pass).readings gauge (Some (s.value gauge)))) Checking Waiting
        (λ e. owner_time s.shape (s.description pass) s.value (s.caller pass) (record (caller_leaves s.shape (s.caller pass) gauge (s.value gauge)) { stage = Checking }) (λ d. tt) knows f)
        (λ e. absurd (in_time e f));
    taken = refl;
  }

pub keeps : (s : State) (pass gauge : ℕ) → IsUpheld s → CanLeavePass s pass gauge → IsUpheld (pass_leaving s pass gauge)
keeps s pass gauge c can =
    carried _ (kept_by_caller s pass _ (kept_of s c) (stays s pass gauge (kept_of s c) can)) (caller_wins_nothing s pass _ refl refl c.sound.wins)
