-- Describe: the pass is idle, so no operation of its is open.
use Rattle.std.proofs.Common.{◌≡◌, ◌≢◌, ◌⊎◌, ℕ, ◌<◌, ◌≤◌, refl, subst, true, Some}
use Rattle.room_core.specs.declared.parts.Phase.{Phase}
use Rattle.room_core.specs.declared.parts.Stage.{Stage}
use Rattle.room_core.specs.declared.parts.Stage.TheVariants.{Listing}
use Rattle.room_core.specs.Put.{put}
use Rattle.room_core.specs.Gauges.{clock_of}
use Rattle.room_core.specs.Description.{IsMark, IsOperation, IsSatisfied, deadline_of, marked_gauge}
use Rattle.room_core.specs.Duty.{IsOpen, IsLate, OwnerFinds, ShardFinds, ScannerFinds, FindsTally, FindsTime}
use Rattle.room_core.specs.Sound.{Agree, IsNeeded, IsOwed}
use Rattle.room_core.specs.Wins.{taken_at}
use Rattle.room_core.specs.Passes.{CanDescribe, describing, caller_describes}
use Rattle.room_core.specs.Carried.{IsUpheld}
use Rattle.room_core.specs.State.{State, Caller}
use Rattle.room_core.proofs.Facts.{IsListed, GenerationsAreSound, ListingsAreSound, OwnersAreSound, WinsAreSound}
use Rattle.room_core.proofs.Puts.{at-put, at-puts}
use Rattle.room_core.proofs.Kept.{IsKept, kept_of, carried}
use Rattle.room_core.proofs.Winners.{caller_wins_nothing}

-- an idle pass has no open operation
pub idle_closed : (s : State) (p : ℕ) → IsKept s → (s.caller p).stage ≡ Stage.Idle → (s.session p).phase ≡ Phase.Idle
idle_closed s p k e = subst (λ st. Agree st (s.session p).phase) e (k.owners.stage p)

module _ (s : State) (p at word : ℕ) (k : IsKept s) (can : CanDescribe s p at) where
  closed : IsOpen s p → ⊥
  closed o = let i : (s.session p).phase ≡ Phase.Idle = idle_closed s p k can.2 in cc

  -- the description and the caller
  both : (P : ℕ → (ℕ → ℕ) → Caller → Type 0) → P p (put (s.description p) at word) (caller_describes (s.caller p) at word) → ((q : ℕ) → P q (s.description q) (s.caller q)) → (q : ℕ) → P q (put s.description p (put (s.description p) at word) q) (put s.caller p (caller_describes (s.caller p) at word) q)
  both P here other = at-puts s.description s.caller p (put (s.description p) at word) (caller_describes (s.caller p) at word) P here (λ q n. other q)

  words : (P : ℕ → (ℕ → ℕ) → Type 0) → P p (put (s.description p) at word) → ((q : ℕ) → P q (s.description q)) → (q : ℕ) → P q (put s.description p (put (s.description p) at word) q)
  words P here other = at-put s.description p (put (s.description p) at word) P here (λ q n. other q)

  as_before : (P : ℕ → Caller → Type 0) → P p (caller_describes (s.caller p) at word) → ((q : ℕ) → P q (s.caller q)) → (q : ℕ) → P q (put s.caller p (caller_describes (s.caller p) at word) q)
  as_before P here other = at-put s.caller p (caller_describes (s.caller p) at word) P here (λ q n. other q)

  owners : OwnersAreSound (describing s p at word)
  owners = record {
    generation = as_before (λ q c. (s.session q).generation ≡ c.generation) (k.owners.generation p) k.owners.generation;
    description = both (λ q d c. (i : ℕ) → d i ≡ c.description i)
        (at-puts (s.description p) (s.caller p).description at word word (λ i x y. x ≡ y) refl (λ i n. k.owners.description p i)) k.owners.description;
    stage = as_before (λ q c. Agree c.stage (s.session q).phase) (k.owners.stage p) k.owners.stage;
    operation = both (λ q d c. c.stage ≢ Stage.Idle → IsOperation s.shape d) (λ n. absurd (n can.2)) k.owners.operation;
  }

  generations : GenerationsAreSound (describing s p at word)
  generations = record {
    learned = λ j i w meeting m o g e.
        words (λ q d. IsOpen s q → w ≡ s.description q i → w ≡ d i) (λ x. absurd (closed x)) (λ q x y. y) meeting.pass o (k.generations.learned j i w meeting m o g e);
    meeting = k.generations.meeting;
    entry = k.generations.entry;
    mark = k.generations.mark;
    taken = as_before (λ q c. (generation : ℕ) → (s.session q).generation < generation → taken_at c.taken generation ≡ 0) (k.generations.taken p) k.generations.taken;
    untaken = as_before (λ q c. c.stage ≢ Stage.Idle → taken_at c.taken (s.session q).generation ≡ 0) (k.generations.untaken p) k.generations.untaken;
    newest = k.generations.newest;
  }

  listings : ListingsAreSound (describing s p at word)
  listings = record {
    marked = words (λ q d. (i : ℕ) → IsOpen s q → i ≤ 64 → s.marks q i ≡ (s.session q).generation → IsListed s (marked_gauge s.shape d i) q)
        (λ i o. absurd (closed o)) k.listings.marked;
    seen = both (λ q d c. (i : ℕ) → IsOpen s q → i ≤ 64 → c.seen i ≡ true → IsListed s (marked_gauge s.shape d i) q) (λ i o. absurd (closed o)) k.listings.seen;
    complete = both (λ q d c. (i : ℕ) → IsOpen s q → c.stage ≢ Listing → IsMark d i → IsListed s (marked_gauge s.shape d i) q) (λ i o. absurd (closed o)) k.listings.complete;
    right = λ j gauge pass entry.
        words (λ q d. IsOpen s q → (s.scanner j).listing gauge q ≡ Some entry → entry.generation ≡ (s.session q).generation
        → IsNeeded d gauge ⊎ ((gauge ≡ clock_of s.shape) × (entry.deadline ≡ deadline_of d)))
        (λ o. absurd (closed o)) (λ q. k.listings.right j gauge q entry) pass;
  }

  pub kept : IsKept (describing s p at word)
  kept = record {
    shape = k.shape;
    values = k.values;
    debts = record {
      owed = as_before (λ q c. (g : ℕ) → c.owed g ≤ s.asked g) (k.debts.owed p) k.debts.owed;
      heard = k.debts.heard;
      someone = λ g l.
          let o : IsOwed s.caller g (s.asked g) = k.debts.someone g l in
          record { pass = o.pass; owes = as_before (λ q c. s.asked g ≤ (s.caller q).owed g → s.asked g ≤ c.owed g) (λ x. x) (λ q x. x) o.pass o.owes };
    };
    readings = record {
      greatest = as_before (λ q c. (g : ℕ) → c.greatest g ≤ s.value g) (k.readings.greatest p) k.readings.greatest;
      owner = as_before (λ q c. (g v : ℕ) → c.readings g ≡ Some v → v ≤ s.value g) (k.readings.owner p) k.readings.owner;
      scanner = k.readings.scanner;
    };
    owners = owners;
    generations = generations;
    listings = listings;
    tally =
        both (λ q d c. IsOpen s q → IsSatisfied d s.value
        → (OwnerFinds (FindsTally d s.value) c ⊎ ShardFinds (FindsTally d s.value) s.scanner q (s.session q).generation) ⊎ IsLate d s.value s.begun)
        (λ o. absurd (closed o)) k.tally;
    time =
        both (λ q d c. IsOpen s q → deadline_of d ≤ s.begun (clock_of s.shape)
        → OwnerFinds (FindsTime s.shape d s.value) c ⊎ ScannerFinds (FindsTime s.shape d s.value) (s.scanner 16) q (s.session q).generation)
        (λ o. absurd (closed o)) k.time;
    opened = as_before (λ q c. c.stage ≢ Stage.Idle → 1 ≤ (s.session q).generation) (k.opened p) k.opened;
    scanners = k.scanners;
  }

pub keeps : (s : State) (pass at word : ℕ) → IsUpheld s → CanDescribe s pass at → IsUpheld (describing s pass at word)
keeps s pass at word c can =
    let w : WinsAreSound (record s { caller = put s.caller pass (caller_describes (s.caller pass) at word) }) = caller_wins_nothing s pass _ refl refl c.sound.wins in
    carried _ (kept s pass at word (kept_of s c) can) (record { counted = w.counted; once = w.once })
