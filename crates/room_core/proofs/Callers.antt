-- An event that changes one caller alone.
use Rattle.std.proofs.Common.{◌∙◌, ◌≡◌, ◌≢◌, ℕ, ◌<◌, ◌≤◌, sym, ap, true, Some}
use Rattle.room_core.specs.declared.parts.Stage.{Stage}
use Rattle.room_core.specs.declared.parts.Stage.TheVariants.{Listing}
use Rattle.room_core.specs.Put.{put}
use Rattle.room_core.specs.Description.{IsMark, IsOperation, marked_gauge}
use Rattle.room_core.specs.Duty.{IsOpen, OwnerFinds, FindsTally, FindsTime}
use Rattle.room_core.specs.Sound.{Agree, IsOwed}
use Rattle.room_core.specs.Wins.{taken_at}
use Rattle.room_core.specs.State.{State, Caller}
use Rattle.room_core.proofs.Facts.{DebtsAreSound, ReadingsAreSound, OwnersAreSound, GenerationsAreSound, IsListed, ListingsAreSound}
use Rattle.room_core.proofs.Puts.{at-put}
use Rattle.room_core.proofs.Finding.{either_too}
use Rattle.room_core.proofs.Kept.{IsKept}

abbrev pub with_caller : State → ℕ → Caller → State
with_caller s p new = record s { caller = put s.caller p new }

-- what the caller has to keep
pub record CallerStays (s : State) (p : ℕ) (new : Caller) : Type 0 where
  pub owed : (gauge : ℕ) → new.owed gauge ≤ s.asked gauge
  pub owes : (gauge : ℕ) → s.begun gauge < s.asked gauge → s.asked gauge ≤ (s.caller p).owed gauge → s.asked gauge ≤ new.owed gauge
  pub greatest : (gauge : ℕ) → new.greatest gauge ≤ s.value gauge
  pub readings : (gauge value : ℕ) → new.readings gauge ≡ Some value → value ≤ s.value gauge
  pub generation : new.generation ≡ (s.caller p).generation
  pub description : (at : ℕ) → new.description at ≡ (s.caller p).description at
  pub stage : Agree new.stage (s.session p).phase
  pub busy : new.stage ≢ Stage.Idle → (s.caller p).stage ≢ Stage.Idle
  pub seen : (i : ℕ) → IsOpen s p → i ≤ 64 → new.seen i ≡ true → IsListed s (marked_gauge s.shape (s.description p) i) p
  pub complete : (i : ℕ) → IsOpen s p → new.stage ≢ Listing → IsMark (s.description p) i → IsListed s (marked_gauge s.shape (s.description p) i) p
  pub tally : IsOpen s p → OwnerFinds (FindsTally (s.description p) s.value) (s.caller p) → OwnerFinds (FindsTally (s.description p) s.value) new
  pub time : IsOpen s p → OwnerFinds (FindsTime s.shape (s.description p) s.value) (s.caller p) → OwnerFinds (FindsTime s.shape (s.description p) s.value) new
  pub taken : new.taken ≡ (s.caller p).taken

module _ (s : State) (p : ℕ) (new : Caller) (k : IsKept s) (c : CallerStays s p new) where
  debts : DebtsAreSound (with_caller s p new)
  debts = record {
    owed = λ pass gauge.
        at-put s.caller p new (λ q x. x.owed gauge ≤ s.asked gauge) (c.owed gauge) (λ q n. k.debts.owed q gauge) pass;
    heard = k.debts.heard;
    someone = λ gauge l.
        let o : IsOwed s.caller gauge (s.asked gauge) = k.debts.someone gauge l in
        record {
          pass = o.pass;
          owes = at-put s.caller p new (λ q x. s.asked gauge ≤ (s.caller q).owed gauge → s.asked gauge ≤ x.owed gauge) (c.owes gauge l) (λ q n h. h) o.pass o.owes;
        };
  }

  readings : ReadingsAreSound (with_caller s p new)
  readings = record {
    greatest = λ pass gauge.
        at-put s.caller p new (λ q x. x.greatest gauge ≤ s.value gauge) (c.greatest gauge) (λ q n. k.readings.greatest q gauge) pass;
    owner = λ pass gauge value.
        at-put s.caller p new (λ q x. x.readings gauge ≡ Some value → value ≤ s.value gauge) (c.readings gauge value) (λ q n. k.readings.owner q gauge value) pass;
    scanner = k.readings.scanner;
  }

  owners : OwnersAreSound (with_caller s p new)
  owners = record {
    generation =
        at-put s.caller p new (λ q x. (s.session q).generation ≡ x.generation) (k.owners.generation p ∙ sym c.generation) (λ q n. k.owners.generation q);
    description = λ pass at.
        at-put s.caller p new (λ q x. s.description q at ≡ x.description at) (k.owners.description p at ∙ sym (c.description at)) (λ q n. k.owners.description q at) pass;
    stage = at-put s.caller p new (λ q x. Agree x.stage (s.session q).phase) c.stage (λ q n. k.owners.stage q);
    operation =
        at-put s.caller p new (λ q x. x.stage ≢ Stage.Idle → IsOperation s.shape (s.description q)) (λ b. k.owners.operation p (c.busy b)) (λ q n. k.owners.operation q);
  }

  generations : GenerationsAreSound (with_caller s p new)
  generations = record {
    learned = k.generations.learned;
    meeting = k.generations.meeting;
    entry = k.generations.entry;
    mark = k.generations.mark;
    taken = λ pass generation.
        at-put s.caller p new (λ q x. (s.session q).generation < generation → taken_at x.taken generation ≡ 0)
        (λ l. ap (λ t. taken_at t generation) c.taken ∙ k.generations.taken p generation l) (λ q n. k.generations.taken q generation) pass;
    untaken =
        at-put s.caller p new (λ q x. x.stage ≢ Stage.Idle → taken_at x.taken (s.session q).generation ≡ 0)
        (λ b. ap (λ t. taken_at t (s.session p).generation) c.taken ∙ k.generations.untaken p (c.busy b)) (λ q n. k.generations.untaken q);
    newest = k.generations.newest;
  }

  listings : ListingsAreSound (with_caller s p new)
  listings = record {
    marked = k.listings.marked;
    seen = λ pass i.
        at-put s.caller p new (λ q x. IsOpen s q → i ≤ 64 → x.seen i ≡ true → IsListed s (marked_gauge s.shape (s.description q) i) q)
        (c.seen i) (λ q n. k.listings.seen q i) pass;
    complete = λ pass i.
        at-put s.caller p new (λ q x. IsOpen s q → x.stage ≢ Listing → IsMark (s.description q) i → IsListed s (marked_gauge s.shape (s.description q) i) q)
        (c.complete i) (λ q n. k.listings.complete q i) pass;
    right = k.listings.right;
  }

  pub kept_by_caller : IsKept (with_caller s p new)
  kept_by_caller = record {
    shape = k.shape;
    values = k.values;
    debts = debts;
    readings = readings;
    owners = owners;
    generations = generations;
    listings = listings;
    tally = λ pass o sat.
        either_too
        (either_too
        (at-put s.caller p new (λ q x. IsOpen s q → OwnerFinds (FindsTally (s.description q) s.value) (s.caller q) → OwnerFinds (FindsTally (s.description q) s.value) x)
        c.tally (λ q n o f. f) pass o)
        (λ f. f))
        (λ l. l)
        (k.tally pass o sat);
    time = λ pass o d.
        either_too
        (at-put s.caller p new (λ q x. IsOpen s q → OwnerFinds (FindsTime s.shape (s.description q) s.value) (s.caller q) → OwnerFinds (FindsTime s.shape (s.description q) s.value) x)
        c.time (λ q n o f. f) pass o)
        (λ f. f)
        (k.time pass o d);
    opened =
        at-put s.caller p new (λ q x. x.stage ≢ Stage.Idle → 1 ≤ (s.session q).generation) (λ b. k.opened p (c.busy b)) (λ q n. k.opened q);
    scanners = k.scanners;
  }
