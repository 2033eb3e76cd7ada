-- Ask: asked only rises, and where it rose this pass owes it.
use Rattle.std.proofs.Common.{⊎_elim, ◌≡◌, ◌≢◌, ℕ, ◌<◌, ◌≤◌, max, sym, refl, subst, arith, true, Some}
use Rattle.std.proofs.lemmas.Bool.{cases_lt}
use Rattle.room_core.specs.declared.parts.Stage.{Stage}
use Rattle.room_core.specs.declared.parts.Stage.TheVariants.{Listing}
use Rattle.room_core.specs.Put.{put}
use Rattle.room_core.specs.Description.{IsMark, IsOperation, marked_gauge}
use Rattle.room_core.specs.Duty.{IsOpen, OwnerFinds, FindsTally, FindsTime}
use Rattle.room_core.specs.Sound.{Agree, IsOwed}
use Rattle.room_core.specs.Wins.{taken_at}
use Rattle.room_core.specs.Scans.{CanAsk, asking, caller_asks}
use Rattle.room_core.specs.Carried.{IsUpheld}
use Rattle.room_core.specs.State.{State, Caller}
use Rattle.room_core.proofs.Facts.{IsListed, ValuesAreSound, OwnersAreSound, GenerationsAreSound, ListingsAreSound, WinsAreSound}
use Rattle.room_core.proofs.Puts.{at-put, at-puts, put-same}
use Rattle.room_core.proofs.Finding.{either_too}
use Rattle.room_core.proofs.Kept.{IsKept, kept_of, carried}
use Rattle.room_core.proofs.Winners.{caller_wins_nothing}

module _ (s : State) (p gauge value : ℕ) (k : IsKept s) (can : CanAsk s p gauge value) where
  read : value ≤ s.value gauge
  read = omega (arith, can.2, k.readings.greatest p gauge)

  rises : (g : ℕ) → s.asked g ≤ put s.asked gauge (max (s.asked gauge) value) g
  rises = at-put s.asked gauge (max (s.asked gauge) value) (λ g x. s.asked g ≤ x) (omega arith) (λ g n. omega arith)

  owes_more : (q g : ℕ) → (s.caller q).owed g ≤ (put s.caller p (caller_asks (s.caller p) gauge value) q).owed g
  owes_more q g =
      at-put s.caller p (caller_asks (s.caller p) gauge value) (λ j c. (s.caller j).owed g ≤ c.owed g)
      (at-put (s.caller p).owed gauge (max ((s.caller p).owed gauge) value) (λ h x. (s.caller p).owed h ≤ x) (omega arith) (λ h n. omega arith) g)
      (λ j n. omega arith) q

  asks : value ≤ (put s.caller p (caller_asks (s.caller p) gauge value) p).owed gauge
  asks =
      subst (λ c. value ≤ c.owed gauge) (sym (put-same s.caller p (caller_asks (s.caller p) gauge value)))
      (subst (λ x. value ≤ x) (sym (put-same (s.caller p).owed gauge (max ((s.caller p).owed gauge) value))) (omega arith))

  still : (g : ℕ) → IsOwed s.caller g (s.asked g) → IsOwed (put s.caller p (caller_asks (s.caller p) gauge value)) g (s.asked g)
  still g o = record { pass = o.pass; owes = omega (arith, o.owes, owes_more o.pass g) }

  someone : (g : ℕ) → s.begun g < put s.asked gauge (max (s.asked gauge) value) g → IsOwed (put s.caller p (caller_asks (s.caller p) gauge value)) g (put s.asked gauge (max (s.asked gauge) value) g)
  someone =
      at-put s.asked gauge (max (s.asked gauge) value) (λ g x. s.begun g < x → IsOwed (put s.caller p (caller_asks (s.caller p) gauge value)) g x)
      (λ l.
      ⊎_elim
      (λ (h : s.asked gauge < value). record { pass = p; owes = omega (arith, asks) })
      (λ (h : value ≤ s.asked gauge). let o : IsOwed s.caller gauge (s.asked gauge) = k.debts.someone gauge (omega arith) in record { pass = o.pass; owes = omega (arith, o.owes, owes_more o.pass gauge) })
      (cases_lt (s.asked gauge) value))
      (λ g n l. still g (k.debts.someone g l))

  owed : (q g : ℕ) → (put s.caller p (caller_asks (s.caller p) gauge value) q).owed g ≤ put s.asked gauge (max (s.asked gauge) value) g
  owed q g =
      at-put s.caller p (caller_asks (s.caller p) gauge value) (λ j c. c.owed g ≤ put s.asked gauge (max (s.asked gauge) value) g)
      (at-puts (s.caller p).owed s.asked gauge (max ((s.caller p).owed gauge) value) (max (s.asked gauge) value) (λ h x y. x ≤ y) (omega (arith, k.debts.owed p gauge)) (λ h n. k.debts.owed p h) g)
      (λ j n. omega (arith, k.debts.owed j g, rises g)) q

  -- all else of the caller is as it was
  as_before : (P : ℕ → Caller → Type 0) → P p (caller_asks (s.caller p) gauge value) → ((q : ℕ) → P q (s.caller q)) → (q : ℕ) → P q (put s.caller p (caller_asks (s.caller p) gauge value) q)
  as_before P here other = at-put s.caller p (caller_asks (s.caller p) gauge value) P here (λ q n. other q)

  values : ValuesAreSound (asking s p gauge value)
  values = record {
    begun = λ g. omega (arith, k.values.begun g, rises g);
    asked = at-put s.asked gauge (max (s.asked gauge) value) (λ g x. x ≤ s.value g) (omega (arith, read, k.values.asked gauge)) (λ g n. k.values.asked g);
    stored = k.values.stored;
    loud = λ g l. k.values.loud g (omega (arith, l, rises g));
    own = k.values.own;
  }

  owners : OwnersAreSound (asking s p gauge value)
  owners = record {
    generation = as_before (λ q c. (s.session q).generation ≡ c.generation) (k.owners.generation p) k.owners.generation;
    description = as_before (λ q c. (at : ℕ) → s.description q at ≡ c.description at) (k.owners.description p) k.owners.description;
    stage = as_before (λ q c. Agree c.stage (s.session q).phase) (k.owners.stage p) k.owners.stage;
    operation = as_before (λ q c. c.stage ≢ Stage.Idle → IsOperation s.shape (s.description q)) (k.owners.operation p) k.owners.operation;
  }

  generations : GenerationsAreSound (asking s p gauge value)
  generations = record {
    learned = k.generations.learned;
    meeting = k.generations.meeting;
    entry = k.generations.entry;
    mark = k.generations.mark;
    taken = as_before (λ q c. (generation : ℕ) → (s.session q).generation < generation → taken_at c.taken generation ≡ 0) (k.generations.taken p) k.generations.taken;
    untaken = as_before (λ q c. c.stage ≢ Stage.Idle → taken_at c.taken (s.session q).generation ≡ 0) (k.generations.untaken p) k.generations.untaken;
    newest = k.generations.newest;
  }

  listings : ListingsAreSound (asking s p gauge value)
  listings = record {
    marked = k.listings.marked;
    seen = as_before (λ q c. (i : ℕ) → IsOpen s q → i ≤ 64 → c.seen i ≡ true → IsListed s (marked_gauge s.shape (s.description q) i) q) (k.listings.seen p) k.listings.seen;
    complete = as_before (λ q c. (i : ℕ) → IsOpen s q → c.stage ≢ Listing → IsMark (s.description q) i → IsListed s (marked_gauge s.shape (s.description q) i) q) (k.listings.complete p) k.listings.complete;
    right = k.listings.right;
  }

  pub kept : IsKept (asking s p gauge value)
  kept = record {
    shape = k.shape;
    values = values;
    debts = record { owed = owed; heard = λ j heard e. omega (arith, k.debts.heard j heard e, rises heard.gauge); someone = someone };
    readings = record {
      greatest = as_before (λ q c. (g : ℕ) → c.greatest g ≤ s.value g) (k.readings.greatest p) k.readings.greatest;
      owner = as_before (λ q c. (g v : ℕ) → c.readings g ≡ Some v → v ≤ s.value g) (k.readings.owner p) k.readings.owner;
      scanner = k.readings.scanner;
    };
    owners = owners;
    generations = generations;
    listings = listings;
    tally = λ pass o sat.
        either_too
        (either_too
        (as_before (λ q c. OwnerFinds (FindsTally (s.description q) s.value) (s.caller q) → OwnerFinds (FindsTally (s.description q) s.value) c) (λ f. record { on_duty = f.on_duty; found = f.found }) (λ q f. f) pass)
        (λ f. f))
        (λ l. l) (k.tally pass o sat);
    time = λ pass o d.
        either_too
        (as_before (λ q c. OwnerFinds (FindsTime s.shape (s.description q) s.value) (s.caller q) → OwnerFinds (FindsTime s.shape (s.description q) s.value) c) (λ f. record { on_duty = f.on_duty; found = f.found }) (λ q f. f) pass)
        (λ f. f)
        (k.time pass o d);
    opened = as_before (λ q c. c.stage ≢ Stage.Idle → 1 ≤ (s.session q).generation) (k.opened p) k.opened;
    scanners = k.scanners;
  }

pub keeps : (s : State) (pass gauge value : ℕ) → IsUpheld s → CanAsk s pass gauge value → IsUpheld (asking s pass gauge value)
keeps s pass gauge value c can =
    let w : WinsAreSound (record s { caller = put s.caller pass (caller_asks (s.caller pass) gauge value) }) = caller_wins_nothing s pass _ refl refl c.sound.wins in
    carried _ (kept s pass gauge value (kept_of s c) can) (record { counted = w.counted; once = w.once })
