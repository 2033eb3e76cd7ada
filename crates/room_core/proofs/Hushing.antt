-- Hush: the source is loud where value is above asked.
use Rattle.std.proofs.Common.{◌≡◌, ℕ, ◌<◌, arith, true, false}
use Rattle.std.specs.Prelude.{nat_le}
use Rattle.std.proofs.lemmas.Bool.{leb-true}
use Rattle.room_core.specs.Scans.{CanHush, hushing, source_hushes}
use Rattle.room_core.specs.Carried.{IsUpheld}
use Rattle.room_core.specs.State.{State}
use Rattle.room_core.proofs.Puts.{at-put}
use Rattle.room_core.proofs.Known.{of_either}

pub keeps : (s : State) (gauge : ℕ) → IsUpheld s → CanHush s gauge → IsUpheld (hushing s gauge)
keeps s gauge c can = record {
  shape = c.shape;
  sound = record {
    values = record {
      begun = c.sound.values.begun;
      asked = c.sound.values.asked;
      stored = at-put s.source gauge (source_hushes (s.source gauge) (s.asked gauge)) (λ g x. s.value g ≡ x.stored) (c.sound.values.stored gauge) (λ g n. c.sound.values.stored g);
      loud =
          at-put s.source gauge (source_hushes (s.source gauge) (s.asked gauge)) (λ g x. s.asked g < s.value g → x.loud ≡ true)
          (λ l. of_either (λ b. b ≡ true) (nat_le (s.source gauge).stored (s.asked gauge)) false (s.source gauge).loud
          (λ e. absurd (omega (arith, leb-true (s.source gauge).stored (s.asked gauge) e, c.sound.values.stored gauge))) (λ e. c.sound.values.loud gauge l))
          (λ g n. c.sound.values.loud g);
      own = c.sound.values.own;
    };
    debts = c.sound.debts;
    readings = c.sound.readings;
    owners = c.sound.owners;
    generations = c.sound.generations;
    listings = c.sound.listings;
    tally = c.sound.tally;
    time = c.sound.time;
    wins = c.sound.wins;
  };
  opened = c.opened;
  scanners = c.scanners;
}
