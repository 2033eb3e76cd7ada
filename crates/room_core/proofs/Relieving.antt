-- Relieve: who owes at least asked, above begun, isn't relieved.
use Rattle.std.proofs.Common.{ℕ, ◌<◌, ◌≤◌, refl, arith}
use Rattle.std.specs.Prelude.{nat_le, if◌then◌else◌}
use Rattle.std.proofs.lemmas.Bool.{leb-true}
use Rattle.room_core.specs.Scans.{CanRelieve, relieving, caller_relieves}
use Rattle.room_core.specs.Carried.{IsUpheld}
use Rattle.room_core.specs.State.{State}
use Rattle.room_core.proofs.Puts.{at-put}
use Rattle.room_core.proofs.Known.{of_either}
use Rattle.room_core.proofs.Kept.{IsKept, kept_of, carried}
use Rattle.room_core.proofs.Callers.{CallerStays, kept_by_caller}
use Rattle.room_core.proofs.Winners.{caller_wins_nothing}

module _ (s : State) (pass gauge : ℕ) (k : IsKept s) where
  pub stays : CallerStays s pass (caller_relieves (s.caller pass) gauge (s.begun gauge))
  stays = record {
    owed =
        at-put (s.caller pass).owed gauge (if nat_le ((s.caller pass).owed gauge) (s.begun gauge) then 0 else (s.caller pass).owed gauge) (λ g x. x ≤ s.asked g)
        (of_either (λ x. x ≤ s.asked gauge) (nat_le ((s.caller pass).owed gauge) (s.begun gauge)) 0 ((s.caller pass).owed gauge) (λ e. omega arith) (λ e. k.debts.owed pass gauge))
        (λ g n. k.debts.owed pass g);
    owes =
        at-put (s.caller pass).owed gauge (if nat_le ((s.caller pass).owed gauge) (s.begun gauge) then 0 else (s.caller pass).owed gauge) (λ g x. s.begun g < s.asked g → s.asked g ≤ (s.caller pass).owed g → s.asked g ≤ x)
        (of_either (λ x. s.begun gauge < s.asked gauge → s.asked gauge ≤ (s.caller pass).owed gauge → s.asked gauge ≤ x) (nat_le ((s.caller pass).owed gauge) (s.begun gauge)) 0 ((s.caller pass).owed gauge)
        (λ e l h. absurd (omega (arith, leb-true ((s.caller pass).owed gauge) (s.begun gauge) e))) (λ e l h. h))
        (λ g n l h. h);
    greatest = k.readings.greatest pass;
    readings = k.readings.owner pass;
    generation = refl;
    description = λ at. refl;
    stage = k.owners.stage pass;
    busy = λ b. b;
    seen = k.listings.seen pass;
    complete = k.listings.complete pass;
    tally = λ o f. record { on_duty = f.on_duty; found = f.found };
    time = λ o f. record { on_duty = f.on_duty; found = f.found };
    taken = refl;
  }

pub keeps : (s : State) (pass gauge : ℕ) → IsUpheld s → CanRelieve s pass gauge → IsUpheld (relieving s pass gauge)
keeps s pass gauge c can =
    carried _ (kept_by_caller s pass _ (kept_of s c) (stays s pass gauge (kept_of s c))) (caller_wins_nothing s pass _ refl refl c.sound.wins)
