-- Idle: what the word said is now among what was taken.
use Rattle.std.proofs.Common.{◌≡◌, ◌≢◌, ◌⊎◌, ℕ, ◌+◌, ◌<◌, ◌≤◌, true, sym, ap, refl, ◌∙◌, arith, Some}
use Rattle.room_core.specs.declared.event.How.{How}
use Rattle.room_core.specs.declared.parts.Phase.{Phase}
use Rattle.room_core.specs.declared.parts.Phase.TheVariants.{Open, Won}
use Rattle.room_core.specs.declared.parts.Session.{Session}
use Rattle.room_core.specs.declared.parts.Stage.{Stage}
use Rattle.room_core.specs.declared.parts.Stage.TheVariants.{Listing, Checking, Waiting, Over}
use Rattle.room_core.specs.Put.{put}
use Rattle.room_core.specs.Gauges.{clock_of, scanner_of}
use Rattle.room_core.specs.Description.{IsMark, IsOperation, deadline_of, marked_gauge}
use Rattle.room_core.specs.Duty.{IsLate, OwnerFinds, ShardFinds, ScannerFinds, FindsTally, FindsTime, IsSatisfiedNow}
use Rattle.room_core.specs.Sound.{Agree, IsEntry, IsOwed}
use Rattle.room_core.specs.Wins.{prizes_as, taken_as, won_as, taken_at, won_at}
use Rattle.room_core.specs.Passes.{CanIdle, idling, caller_idles, IsOver, taken_of}
use Rattle.room_core.specs.Carried.{IsUpheld}
use Rattle.room_core.specs.State.{State, Caller}
use Rattle.room_core.proofs.Facts.{IsRightEntry, GenerationsAreSound, ListingsAreSound, OwnersAreSound, WinsAreSound}
use Rattle.room_core.proofs.Puts.{at-put, at-puts}
use Rattle.room_core.proofs.Kept.{IsKept, kept_of, carried}
use Rattle.room_core.proofs.Winners.{wins_of-same, won_as-none, won_at-none, won_at-other, taken_as-more, taken_at-more, over_as, over_at}

-- what is taken of an owner that is Over is what its word says
pub over_taken_as : (stage : Stage) (w : Session) (generation : ℕ) → IsOver stage → Agree stage w.phase → w.generation ≡ generation
    → (g : ℕ) (how : How) (by : ℕ) → taken_as (taken_of stage generation) g how by ≡ won_as w g how by
unfolding taken_of
over_taken_as (Over h b) w generation o a e g how by =
    over_as generation h b g how by ∙ ap (λ x. won_as (record { generation = x; phase = Won h b }) g how by) (sym e) ∙ ap (λ x. won_as (record { generation = w.generation; phase = x }) g how by) (sym a)
over_taken_as Stage.Idle w generation o a e g how by = absurd o
over_taken_as Listing w generation o a e g how by = absurd o
over_taken_as Checking w generation o a e g how by = absurd o
over_taken_as Waiting w generation o a e g how by = absurd o

pub over_taken_at : (stage : Stage) (w : Session) (generation : ℕ) → IsOver stage → Agree stage w.phase → w.generation ≡ generation
    → (g : ℕ) → taken_at (taken_of stage generation) g ≡ won_at w g
unfolding taken_of
over_taken_at (Over h b) w generation o a e g =
    over_at generation h b g ∙ ap (λ x. won_at (record { generation = x; phase = Won h b }) g) (sym e) ∙ ap (λ x. won_at (record { generation = w.generation; phase = x }) g) (sym a)
over_taken_at Stage.Idle w generation o a e g = absurd o
over_taken_at Listing w generation o a e g = absurd o
over_taken_at Checking w generation o a e g = absurd o
over_taken_at Waiting w generation o a e g = absurd o

module _ (s : State) (p : ℕ) (k : IsKept s) (can : CanIdle s p) where
  same : (s.session p).generation ≡ (s.caller p).generation
  same = k.owners.generation p

  -- the word and the caller
  both : (P : ℕ → Session → Caller → Type 0) → P p (record { generation = (s.caller p).generation; phase = Phase.Idle }) (caller_idles (s.caller p)) → ((q : ℕ) → P q (s.session q) (s.caller q)) → (q : ℕ) → P q (put s.session p (record { generation = (s.caller p).generation; phase = Phase.Idle }) q) (put s.caller p (caller_idles (s.caller p)) q)
  both P here other = at-puts s.session s.caller p (record { generation = (s.caller p).generation; phase = Phase.Idle }) (caller_idles (s.caller p)) P here (λ q n. other q)

  word : (P : ℕ → Session → Type 0) → P p (record { generation = (s.caller p).generation; phase = Phase.Idle }) → ((q : ℕ) → P q (s.session q)) → (q : ℕ) → P q (put s.session p (record { generation = (s.caller p).generation; phase = Phase.Idle }) q)
  word P here other = at-put s.session p (record { generation = (s.caller p).generation; phase = Phase.Idle }) P here (λ q n. other q)

  as_before : (P : ℕ → Caller → Type 0) → P p (caller_idles (s.caller p)) → ((q : ℕ) → P q (s.caller q)) → (q : ℕ) → P q (put s.caller p (caller_idles (s.caller p)) q)
  as_before P here other = at-put s.caller p (caller_idles (s.caller p)) P here (λ q n. other q)

  generation_same : (q : ℕ) → (put s.session p (record { generation = (s.caller p).generation; phase = Phase.Idle }) q).generation ≡ (s.session q).generation
  generation_same = word (λ q w. w.generation ≡ (s.session q).generation) (sym same) (λ q. refl)

  taken_at-now : (g : ℕ) → taken_at (caller_idles (s.caller p)).taken g ≡ taken_at (s.caller p).taken g + won_at (s.session p) g
  taken_at-now g =
      taken_at-more (s.caller p).taken (taken_of (s.caller p).stage (s.caller p).generation) g
      ∙ ap (λ n. taken_at (s.caller p).taken g + n) (over_taken_at (s.caller p).stage (s.session p) (s.caller p).generation can.1 (k.owners.stage p) same g)

  taken_as-now : (g : ℕ) (how : How) (by : ℕ) → taken_as (caller_idles (s.caller p)).taken g how by ≡ taken_as (s.caller p).taken g how by + won_as (s.session p) g how by
  taken_as-now g how by =
      taken_as-more (s.caller p).taken (taken_of (s.caller p).stage (s.caller p).generation) g how by
      ∙ ap (λ n. taken_as (s.caller p).taken g how by + n) (over_taken_as (s.caller p).stage (s.session p) (s.caller p).generation can.1 (k.owners.stage p) same g how by)

  owners : OwnersAreSound (idling s p)
  owners = record {
    generation = both (λ q w c. w.generation ≡ c.generation) refl k.owners.generation;
    description = as_before (λ q c. (at : ℕ) → s.description q at ≡ c.description at) (k.owners.description p) k.owners.description;
    stage = both (λ q w c. Agree c.stage w.phase) refl k.owners.stage;
    operation = as_before (λ q c. c.stage ≢ Stage.Idle → IsOperation s.shape (s.description q)) (λ n. absurd (n refl)) k.owners.operation;
  }

  generations : GenerationsAreSound (idling s p)
  generations = record {
    learned = λ j at w meeting m o g e.
        k.generations.learned j at w meeting m
        (word (λ q x. x.phase ≡ Open → (s.session q).phase ≡ Open) (λ y. absurd (cc)) (λ q y. y) meeting.pass o)
        (sym (generation_same meeting.pass) ∙ g) e;
    meeting = λ j meeting m. omega (arith, k.generations.meeting j meeting m, generation_same meeting.pass);
    entry = λ j gauge pass entry e. omega (arith, k.generations.entry j gauge pass entry e, generation_same pass);
    mark = λ pass i. omega (arith, k.generations.mark pass i, generation_same pass);
    taken =
        both (λ q w c. (generation : ℕ) → w.generation < generation → taken_at c.taken generation ≡ 0)
        (λ g l. omega (arith, taken_at-now g, k.generations.taken p g (omega (arith, same)), won_at-other (s.session p) g (λ e. absurd (omega (arith, same))))) k.generations.taken;
    untaken = both (λ q w c. c.stage ≢ Stage.Idle → taken_at c.taken w.generation ≡ 0) (λ n. absurd (n refl)) k.generations.untaken;
    newest = k.generations.newest;
  }

  listings : ListingsAreSound (idling s p)
  listings = record {
    marked =
        word (λ q w. (i : ℕ) → w.phase ≡ Open → i ≤ 64 → s.marks q i ≡ w.generation → IsEntry ((s.scanner (scanner_of s.shape (marked_gauge s.shape (s.description q) i))).listing (marked_gauge s.shape (s.description q) i) q) w.generation)
        (λ i o. absurd (cc)) k.listings.marked;
    seen =
        both (λ q w c. (i : ℕ) → w.phase ≡ Open → i ≤ 64 → c.seen i ≡ true → IsEntry ((s.scanner (scanner_of s.shape (marked_gauge s.shape (s.description q) i))).listing (marked_gauge s.shape (s.description q) i) q) w.generation)
        (λ i o. absurd (cc)) k.listings.seen;
    complete =
        both (λ q w c. (i : ℕ) → w.phase ≡ Open → c.stage ≢ Listing → IsMark (s.description q) i → IsEntry ((s.scanner (scanner_of s.shape (marked_gauge s.shape (s.description q) i))).listing (marked_gauge s.shape (s.description q) i) q) w.generation)
        (λ i o. absurd (cc)) k.listings.complete;
    right = λ j gauge pass entry.
        word (λ q w. w.phase ≡ Open → (s.scanner j).listing gauge q ≡ Some entry → entry.generation ≡ w.generation → IsRightEntry s gauge q entry)
        (λ o. absurd (cc)) (λ q. k.listings.right j gauge q entry) pass;
  }

  pub kept : IsKept (idling s p)
  kept = record {
    shape = k.shape;
    values = k.values;
    debts = record {
      owed = as_before (λ q c. (g : ℕ) → c.owed g ≤ s.asked g) (k.debts.owed p) k.debts.owed;
      heard = k.debts.heard;
      someone = λ g l.
          let o : IsOwed s.caller g (s.asked g) = k.debts.someone g l in
          record { pass = o.pass; owes = as_before (λ q c. s.asked g ≤ (s.caller q).owed g → s.asked g ≤ c.owed g) (λ x. x) (λ q x. x) o.pass o.owes };
    };
    readings = record {
      greatest = as_before (λ q c. (g : ℕ) → c.greatest g ≤ s.value g) (k.readings.greatest p) k.readings.greatest;
      owner = as_before (λ q c. (g v : ℕ) → c.readings g ≡ Some v → v ≤ s.value g) (k.readings.owner p) k.readings.owner;
      scanner = k.readings.scanner;
    };
    owners = owners;
    generations = generations;
    listings = listings;
    tally =
        both (λ q w c. w.phase ≡ Open → IsSatisfiedNow s q
        → (OwnerFinds (FindsTally (s.description q) s.value) c ⊎ ShardFinds (FindsTally (s.description q) s.value) s.scanner q w.generation) ⊎ IsLate (s.description q) s.value s.begun)
        (λ o. absurd (cc)) k.tally;
    time =
        both (λ q w c. w.phase ≡ Open → deadline_of (s.description q) ≤ s.begun (clock_of s.shape)
        → OwnerFinds (FindsTime s.shape (s.description q) s.value) c ⊎ ScannerFinds (FindsTime s.shape (s.description q) s.value) (s.scanner 16) q w.generation)
        (λ o. absurd (cc)) k.time;
    opened = both (λ q w c. c.stage ≢ Stage.Idle → 1 ≤ w.generation) (λ n. absurd (n refl)) k.opened;
    scanners = k.scanners;
  }

  wins : WinsAreSound s → WinsAreSound (idling s p)
  wins w = record {
    counted = λ by pass generation how.
        ap (λ x. prizes_as x pass generation how)
        (wins_of-same s.scanner s.scanner s.caller (put s.caller p (caller_idles (s.caller p))) (λ j. refl) (as_before (λ q c. c.wins ≡ (s.caller q).wins) refl (λ q. refl)) by)
        ∙ w.counted by pass generation how
        ∙ both (λ q x c. taken_as (s.caller q).taken generation how by + won_as (s.session q) generation how by ≡ taken_as c.taken generation how by + won_as x generation how by)
        (omega (arith, taken_as-now generation how by, won_as-none (record { generation = (s.caller p).generation; phase = Phase.Idle }) generation how by refl))
        (λ q. refl) pass;
    once =
        both (λ q x c. (generation : ℕ) → taken_at c.taken generation + won_at x generation ≤ 1)
        (λ generation. omega (arith, w.once p generation, taken_at-now generation, won_at-none (record { generation = (s.caller p).generation; phase = Phase.Idle }) generation refl)) w.once;
  }

pub keeps : (s : State) (pass : ℕ) → IsUpheld s → CanIdle s pass → IsUpheld (idling s pass)
keeps s pass c can = carried _ (kept s pass (kept_of s c) can) (wins s pass (kept_of s c) can c.sound.wins)
