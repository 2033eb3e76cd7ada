-- Store: where the value rose on a need's gauge, it is above begun; elsewhere nothing that a duty sees changes.
use Rattle.std.proofs.Common.{⊎_elim, ◌≡◌, ℕ, ◌<◌, ◌≤◌, refl, arith, true}
use Rattle.room_core.specs.Put.{put}
use Rattle.room_core.specs.Description.{needs_of, gauge_of, tally}
use Rattle.room_core.specs.Duty.{IsLate, IsOpen, IsSatisfiedNow, IsFoundByTally}
use Rattle.room_core.specs.Carried.{IsUpheld}
use Rattle.room_core.specs.Scans.{CanStore, storing}
use Rattle.room_core.specs.State.{State}
use Rattle.room_core.proofs.Facts.{ValuesAreSound, ReadingsAreSound}
use Rattle.room_core.proofs.Puts.{at-put, at-puts}
use Rattle.room_core.proofs.Tallies.{late_or, tally_rises}
use Rattle.room_core.proofs.Finding.{known_rises, tally_knows, time_knows, owner_too, scanner_too, shard_too, either_too}
use Rattle.room_core.proofs.Kept.{IsKept, carried}

module _ (s : State) (gauge value : ℕ) (c : IsUpheld s) (can : CanStore s gauge value) where
  rises : (g : ℕ) → s.value g ≤ put s.value gauge value g
  rises g = at-put s.value gauge value (λ h x. s.value h ≤ x) (omega (arith, c.sound.values.stored gauge, can.2)) (λ h n. omega arith) g

  values : ValuesAreSound (storing s gauge value)
  values = record {
    begun = c.sound.values.begun;
    asked = λ g. omega (arith, c.sound.values.asked g, rises g);
    stored = at-puts s.value s.source gauge value (record { stored = value; loud = true }) (λ g x y. x ≡ y.stored) refl (λ g n. c.sound.values.stored g);
    loud = at-puts s.value s.source gauge value (record { stored = value; loud = true }) (λ g x y. s.asked g < x → y.loud ≡ true) (λ l. refl) (λ g n. c.sound.values.loud g);
    own = c.sound.values.own;
  }

  readings : ReadingsAreSound (storing s gauge value)
  readings = record {
    greatest = λ p g. omega (arith, c.sound.readings.greatest p g, rises g);
    owner = λ p g x e. omega (arith, c.sound.readings.owner p g x e, rises g);
    scanner = λ k g x e. omega (arith, c.sound.readings.scanner k g x e, rises g);
  }

  found : (pass : ℕ) → IsFoundByTally s pass → IsFoundByTally (storing s gauge value) pass
  found pass =
      either_too
      (owner_too (λ r. tally_knows (s.description pass) s.value (put s.value gauge value) r r (known_rises r _ _ rises)) (s.caller pass))
      (shard_too (λ r. tally_knows (s.description pass) s.value (put s.value gauge value) r r (known_rises r _ _ rises)) s.scanner pass _)

  tallied : (pass : ℕ) → IsOpen s pass → IsSatisfiedNow (storing s gauge value) pass → ((i : ℕ) → i < needs_of (s.description pass) → put s.value gauge value (gauge_of (s.description pass) i) ≤ s.begun (gauge_of (s.description pass) i)) → IsFoundByTally (storing s gauge value) pass
  tallied pass o sat settled =
      ⊎_elim
      (λ (f : IsFoundByTally s pass). found pass f)
      (λ (l : IsLate (s.description pass) s.value s.begun). absurd (omega (arith, l.late, settled l.need l.within, rises (gauge_of (s.description pass) l.need))))
      (c.sound.tally pass o
      (let t : tally (s.description pass) (put s.value gauge value) ≤ tally (s.description pass) s.value = tally_rises (s.description pass) _ _ (λ i l. omega (arith, settled i l, c.sound.values.begun (gauge_of (s.description pass) i), c.sound.values.asked (gauge_of (s.description pass) i))) in
      omega (arith, t, sat)))

  pub kept : IsKept (storing s gauge value)
  kept = record {
    shape = c.shape;
    values = values;
    debts = c.sound.debts;
    readings = readings;
    owners = c.sound.owners;
    generations = c.sound.generations;
    listings = c.sound.listings;
    tally = λ pass o sat. late_or _ _ _ (tallied pass o sat);
    time = λ pass o d.
        either_too
        (owner_too (λ r. time_knows s.shape (s.description pass) s.value (put s.value gauge value) r r (known_rises r _ _ rises)) (s.caller pass))
        (scanner_too (λ r. time_knows s.shape (s.description pass) s.value (put s.value gauge value) r r (known_rises r _ _ rises)) (s.scanner 16) pass _)
        (c.sound.time pass o d);
    opened = c.opened;
    scanners = c.scanners;
  }

pub keeps : (s : State) (gauge value : ℕ) → IsUpheld s → CanStore s gauge value → IsUpheld (storing s gauge value)
keeps s gauge value c can =
    carried (storing s gauge value) (kept s gauge value c can)
    (record { counted = c.sound.wins.counted; once = c.sound.wins.once })
