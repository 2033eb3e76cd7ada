-- Open: all that others know is of older generations, and the owner finds while it is Listing.
use Rattle.std.proofs.Common.{inl, ◌≡◌, ◌≢◌, ◌⊎◌, ℕ, ◌+◌, ◌<◌, ◌≤◌, true, sym, ap, refl, subst, ◌∙◌, arith, Some}
use Rattle.room_core.specs.declared.parts.Phase.TheVariants.{Open}
use Rattle.room_core.specs.declared.parts.Session.{Session}
use Rattle.room_core.specs.declared.parts.Stage.{Stage}
use Rattle.room_core.specs.declared.parts.Stage.TheVariants.{Listing}
use Rattle.room_core.specs.Put.{put}
use Rattle.room_core.specs.Gauges.{clock_of, scanner_of}
use Rattle.room_core.specs.Description.{IsMark, IsOperation, deadline_of, marked_gauge, tally}
use Rattle.room_core.specs.Readings.{known, unread}
use Rattle.room_core.specs.Duty.{IsOpen, IsLate, OwnerFinds, ShardFinds, ScannerFinds, FindsTally, FindsTime, IsSatisfiedNow, owner_readings}
use Rattle.room_core.specs.Sound.{Agree, IsEntry, IsOwed}
use Rattle.room_core.specs.Wins.{prizes_as, taken_as, won_as, taken_at, won_at, is_won}
use Rattle.room_core.specs.Passes.{CanOpen, opening, caller_opens}
use Rattle.room_core.specs.Carried.{IsUpheld}
use Rattle.room_core.specs.State.{State, Caller}
use Rattle.room_core.proofs.Facts.{IsRightEntry, GenerationsAreSound, ListingsAreSound, OwnersAreSound, WinsAreSound}
use Rattle.room_core.proofs.Puts.{at-put, at-puts}
use Rattle.room_core.proofs.Tallies.{tally_rises}
use Rattle.room_core.proofs.Known.{unread_below, owner_forgets}
use Rattle.room_core.proofs.Kept.{IsKept, kept_of, carried}
use Rattle.room_core.proofs.Describing.{idle_closed}
use Rattle.room_core.proofs.Winners.{wins_of-same, won_as-none, won_at-none}

-- who has read nothing knows the values
pub unread_knows : (stage : Stage) (value : ℕ → ℕ) (g : ℕ) → value g ≤ known (owner_readings stage unread) value g
unfolding owner_readings
unread_knows stage value g = owner_forgets Stage.Idle stage unread value (unread_below value) g

module _ (s : State) (p : ℕ) (k : IsKept s) (can : CanOpen s p) where
  same : (s.session p).generation ≡ (s.caller p).generation
  same = k.owners.generation p

  -- the word and the caller
  both : (P : ℕ → Session → Caller → Type 0) → P p (record { generation = (s.caller p).generation + 1; phase = Open }) (caller_opens (s.caller p)) → ((q : ℕ) → P q (s.session q) (s.caller q)) → (q : ℕ) → P q (put s.session p (record { generation = (s.caller p).generation + 1; phase = Open }) q) (put s.caller p (caller_opens (s.caller p)) q)
  both P here other = at-puts s.session s.caller p (record { generation = (s.caller p).generation + 1; phase = Open }) (caller_opens (s.caller p)) P here (λ q n. other q)

  word : (P : ℕ → Session → Type 0) → P p (record { generation = (s.caller p).generation + 1; phase = Open }) → ((q : ℕ) → P q (s.session q)) → (q : ℕ) → P q (put s.session p (record { generation = (s.caller p).generation + 1; phase = Open }) q)
  word P here other = at-put s.session p (record { generation = (s.caller p).generation + 1; phase = Open }) P here (λ q n. other q)

  as_before : (P : ℕ → Caller → Type 0) → P p (caller_opens (s.caller p)) → ((q : ℕ) → P q (s.caller q)) → (q : ℕ) → P q (put s.caller p (caller_opens (s.caller p)) q)
  as_before P here other = at-put s.caller p (caller_opens (s.caller p)) P here (λ q n. other q)

  rises : (q : ℕ) → (s.session q).generation ≤ (put s.session p (record { generation = (s.caller p).generation + 1; phase = Open }) q).generation
  rises = word (λ q w. (s.session q).generation ≤ w.generation) (omega (arith, same)) (λ q. omega arith)

  described : s.description p ≡ (s.caller p).description
  described = λ i at. k.owners.description p at i

  owners : OwnersAreSound (opening s p)
  owners = record {
    generation = both (λ q w c. w.generation ≡ c.generation) refl k.owners.generation;
    description = as_before (λ q c. (at : ℕ) → s.description q at ≡ c.description at) (k.owners.description p) k.owners.description;
    stage = both (λ q w c. Agree c.stage w.phase) (λ e. absurd (cc)) k.owners.stage;
    operation = as_before (λ q c. c.stage ≢ Stage.Idle → IsOperation s.shape (s.description q)) (λ n. subst (IsOperation s.shape) (sym described) can.2) k.owners.operation;
  }

  generations : GenerationsAreSound (opening s p)
  generations = record {
    learned = λ j at w meeting m o g e.
        word (λ q x. q ≡ meeting.pass → x.phase ≡ Open → x.generation ≡ meeting.generation → w ≡ s.description q at)
        (λ q x y. absurd (
        let l : meeting.generation ≤ (s.session p).generation = subst (λ i. meeting.generation ≤ (s.session i).generation) (sym q) (k.generations.meeting j meeting m) in
        omega (arith, l, same, y)))
        (λ i q x y.
        subst (λ h. w ≡ s.description h at) (sym q)
        (k.generations.learned j at w meeting m (subst (IsOpen s) q x) (subst (λ h. (s.session h).generation ≡ meeting.generation) q y) e))
        meeting.pass refl o g;
    meeting = λ j meeting m. omega (arith, k.generations.meeting j meeting m, rises meeting.pass);
    entry = λ j gauge pass entry e. omega (arith, k.generations.entry j gauge pass entry e, rises pass);
    mark = λ pass i. omega (arith, k.generations.mark pass i, rises pass);
    taken =
        both (λ q w c. (generation : ℕ) → w.generation < generation → taken_at c.taken generation ≡ 0)
        (λ g l. k.generations.taken p g (omega (arith, same))) k.generations.taken;
    untaken =
        both (λ q w c. c.stage ≢ Stage.Idle → taken_at c.taken w.generation ≡ 0)
        (λ n. k.generations.taken p ((s.caller p).generation + 1) (omega (arith, same))) k.generations.untaken;
    newest = k.generations.newest;
  }

  listings : ListingsAreSound (opening s p)
  listings = record {
    marked =
        word (λ q w. (i : ℕ) → w.phase ≡ Open → i ≤ 64 → s.marks q i ≡ w.generation → IsEntry ((s.scanner (scanner_of s.shape (marked_gauge s.shape (s.description q) i))).listing (marked_gauge s.shape (s.description q) i) q) w.generation)
        (λ i o l e. absurd (omega (arith, k.generations.mark p i, same))) k.listings.marked;
    seen =
        both (λ q w c. (i : ℕ) → w.phase ≡ Open → i ≤ 64 → c.seen i ≡ true → IsEntry ((s.scanner (scanner_of s.shape (marked_gauge s.shape (s.description q) i))).listing (marked_gauge s.shape (s.description q) i) q) w.generation)
        (λ i o l e. absurd (cc)) k.listings.seen;
    complete =
        both (λ q w c. (i : ℕ) → w.phase ≡ Open → c.stage ≢ Listing → IsMark (s.description q) i → IsEntry ((s.scanner (scanner_of s.shape (marked_gauge s.shape (s.description q) i))).listing (marked_gauge s.shape (s.description q) i) q) w.generation)
        (λ i o n. absurd (n refl)) k.listings.complete;
    right = λ j gauge pass entry.
        word (λ q w. w.phase ≡ Open → (s.scanner j).listing gauge q ≡ Some entry → entry.generation ≡ w.generation → IsRightEntry s gauge q entry)
        (λ o e g. absurd (omega (arith, k.generations.entry j gauge p entry e, same))) (λ q. k.listings.right j gauge q entry) pass;
  }

  pub kept : IsKept (opening s p)
  kept = record {
    shape = k.shape;
    values = k.values;
    debts = record {
      owed = as_before (λ q c. (g : ℕ) → c.owed g ≤ s.asked g) (k.debts.owed p) k.debts.owed;
      heard = k.debts.heard;
      someone = λ g l.
          let o : IsOwed s.caller g (s.asked g) = k.debts.someone g l in
          record { pass = o.pass; owes = as_before (λ q c. s.asked g ≤ (s.caller q).owed g → s.asked g ≤ c.owed g) (λ x. x) (λ q x. x) o.pass o.owes };
    };
    readings = record {
      greatest = as_before (λ q c. (g : ℕ) → c.greatest g ≤ s.value g) (k.readings.greatest p) k.readings.greatest;
      owner = as_before (λ q c. (g v : ℕ) → c.readings g ≡ Some v → v ≤ s.value g) (unread_below s.value) k.readings.owner;
      scanner = k.readings.scanner;
    };
    owners = owners;
    generations = generations;
    listings = listings;
    tally =
        both (λ q w c. w.phase ≡ Open → IsSatisfiedNow s q
        → (OwnerFinds (FindsTally (s.description q) s.value) c ⊎ ShardFinds (FindsTally (s.description q) s.value) s.scanner q w.generation) ⊎ IsLate (s.description q) s.value s.begun)
        (λ o sat. inl (inl (record {
          on_duty = tt;
          found =
              let t : tally (s.description p) s.value ≤ tally (s.description p) (known (owner_readings Listing unread) s.value) = tally_rises (s.description p) s.value (known (owner_readings Listing unread) s.value) (λ i l. unread_knows Listing s.value _) in
              omega (arith, sat, t);
        })))
        k.tally;
    time =
        both (λ q w c. w.phase ≡ Open → deadline_of (s.description q) ≤ s.begun (clock_of s.shape)
        → OwnerFinds (FindsTime s.shape (s.description q) s.value) c ⊎ ScannerFinds (FindsTime s.shape (s.description q) s.value) (s.scanner 16) q w.generation)
        (λ o d. inl (record {
          on_duty = tt;
          found = omega (arith, d, k.values.begun (clock_of s.shape), k.values.asked (clock_of s.shape), unread_knows Listing s.value (clock_of s.shape));
        }))
        k.time;
    opened = both (λ q w c. c.stage ≢ Stage.Idle → 1 ≤ w.generation) (λ n. omega arith) k.opened;
    scanners = k.scanners;
  }

  wins : WinsAreSound s → WinsAreSound (opening s p)
  wins w = record {
    counted = λ by pass generation how.
        ap (λ x. prizes_as x pass generation how)
        (wins_of-same s.scanner s.scanner s.caller (put s.caller p (caller_opens (s.caller p))) (λ j. refl) (as_before (λ q c. c.wins ≡ (s.caller q).wins) refl (λ q. refl)) by)
        ∙ w.counted by pass generation how
        ∙ both (λ q x c. taken_as (s.caller q).taken generation how by + won_as (s.session q) generation how by ≡ taken_as c.taken generation how by + won_as x generation how by)
        (omega (arith, won_as-none (s.session p) generation how by (ap is_won (idle_closed s p k can.1)), won_as-none (record { generation = (s.caller p).generation + 1; phase = Open }) generation how by refl))
        (λ q. refl) pass;
    once =
        both (λ q x c. (generation : ℕ) → taken_at c.taken generation + won_at x generation ≤ 1)
        (λ generation. omega (arith, w.once p generation, won_at-none (record { generation = (s.caller p).generation + 1; phase = Open }) generation refl)) w.once;
  }

pub keeps : (s : State) (pass : ℕ) → IsUpheld s → CanOpen s pass → IsUpheld (opening s pass)
keeps s pass c can = carried _ (kept s pass (kept_of s c) can) (wins s pass (kept_of s c) can c.sound.wins)
