-- An event's change of one pass's word alone: a session word that is won, and a mark.
use Rattle.std.proofs.Common.{⊎_elim, ◌∙◌, inl, inr, cond, false, ◌≡◌, ◌⊎◌, ℕ, ◌≤◌, sym, ap, refl, subst, arith, true}
use Rattle.std.proofs.lemmas.Bool.{cases_Bool}
use Rattle.room_core.specs.declared.event.How.{How}
use Rattle.room_core.specs.declared.parts.Phase.{Phase}
use Rattle.room_core.specs.declared.parts.Phase.TheVariants.{Open, Won}
use Rattle.room_core.specs.declared.parts.Session.{Session}
use Rattle.room_core.specs.declared.parts.Stage.{Stage}
use Rattle.room_core.specs.declared.parts.Stage.TheVariants.{Listing, Checking, Waiting, Over}
use Rattle.room_core.specs.Put.{put}
use Rattle.room_core.specs.Checks.{exchanged}
use Rattle.room_core.specs.Description.{marked_gauge}
use Rattle.room_core.specs.Duty.{IsOpen, ShardFinds, ScannerFinds, FindsTally, FindsTime}
use Rattle.room_core.specs.Sound.{Agree, IsEntry}
use Rattle.room_core.specs.Gauges.{scanner_of}
use Rattle.room_core.specs.Meetings.{is_live}
use Rattle.room_core.specs.Wins.{taken_at}
use Rattle.room_core.specs.State.{State}
use Rattle.room_core.proofs.Facts.{GenerationsAreSound, IsListed}
use Rattle.room_core.proofs.Puts.{at-put}
use Rattle.room_core.proofs.Finding.{either_too}
use Rattle.room_core.proofs.Tests.{live_open}
use Rattle.room_core.proofs.Kept.{IsKept}

abbrev pub with_session : State → ℕ → Session → State
with_session s p word = record s { session = put s.session p word }

abbrev pub with_mark : State → ℕ → ℕ → ℕ → State
with_mark s p i generation = record s { marks = put s.marks p (put (s.marks p) i generation) }

-- a word of the same generation, open only where the old one was, that agrees with each stage that the old one did
pub record WordStays (old new : Session) : Type 0 where
  pub generation : new.generation ≡ old.generation
  pub open_before : new.phase ≡ Open → old.phase ≡ Open
  pub agrees : (stage : Stage) → Agree stage old.phase → Agree stage new.phase

module _ (s : State) (p : ℕ) (new : Session) (k : IsKept s) (c : WordStays (s.session p) new) where
  same : (q : ℕ) → (put s.session p new q).generation ≡ (s.session q).generation
  same = at-put s.session p new (λ q x. x.generation ≡ (s.session q).generation) c.generation (λ q n. refl)

  before : (q : ℕ) → IsOpen (with_session s p new) q → IsOpen s q
  before = at-put s.session p new (λ q x. x.phase ≡ Open → (s.session q).phase ≡ Open) c.open_before (λ q n o. o)

  listed : (gauge pass : ℕ) → IsListed s gauge pass → IsListed (with_session s p new) gauge pass
  listed gauge pass = subst (λ g. IsEntry ((s.scanner (scanner_of s.shape gauge)).listing gauge pass) g) (sym (same pass))

  generations : GenerationsAreSound (with_session s p new)
  generations = record {
    learned = λ j at word meeting m o e l. k.generations.learned j at word meeting m (before meeting.pass o) (sym (same meeting.pass) ∙ e) l;
    meeting = λ j meeting m. omega (arith, k.generations.meeting j meeting m, same meeting.pass);
    entry = λ j gauge pass entry e. omega (arith, k.generations.entry j gauge pass entry e, same pass);
    mark = λ pass i. omega (arith, k.generations.mark pass i, same pass);
    taken = λ pass generation l. k.generations.taken pass generation (omega (arith, l, same pass));
    untaken = λ pass b. ap (taken_at (s.caller pass).taken) (same pass) ∙ k.generations.untaken pass b;
    newest = k.generations.newest;
  }

  pub kept_by_word : IsKept (with_session s p new)
  kept_by_word = record {
    shape = k.shape;
    values = k.values;
    debts = k.debts;
    readings = k.readings;
    owners = record {
      generation = λ q. same q ∙ k.owners.generation q;
      description = k.owners.description;
      stage = at-put s.session p new (λ q x. Agree (s.caller q).stage x.phase) (c.agrees _ (k.owners.stage p)) (λ q n. k.owners.stage q);
      operation = k.owners.operation;
    };
    generations = generations;
    listings = record {
      marked = λ pass i o l m. listed _ pass (k.listings.marked pass i (before pass o) l (m ∙ same pass));
      seen = λ pass i o l m. listed _ pass (k.listings.seen pass i (before pass o) l m);
      complete = λ pass i o l m. listed _ pass (k.listings.complete pass i (before pass o) l m);
      right = λ j gauge pass entry o e g. k.listings.right j gauge pass entry (before pass o) e (g ∙ same pass);
    };
    tally = λ pass o sat.
        either_too
        (either_too
        (λ f. f)
        (λ f. subst (ShardFinds (FindsTally (s.description pass) s.value) s.scanner pass) (sym (same pass)) f))
        (λ l. l)
        (k.tally pass (before pass o) sat);
    time = λ pass o d.
        either_too
        (λ f. f)
        (λ f. subst (ScannerFinds (FindsTime s.shape (s.description pass) s.value) (s.scanner 16) pass) (sym (same pass)) f)
        (k.time pass (before pass o) d);
    opened = λ pass b. omega (arith, k.opened pass b, same pass);
    scanners = k.scanners;
  }

-- either the exchange was made, or the word stays
pub exchanged_or : (w : Session) (generation : ℕ) (how : How) (by : ℕ)
    → ((is_live w generation ≡ true) × (exchanged w generation how by ≡ record { generation = w.generation; phase = Won how by }))
    ⊎ ((is_live w generation ≡ false) × (exchanged w generation how by ≡ w))
unfolding exchanged
exchanged_or w generation how by =
    ⊎_elim
    (λ (e : is_live w generation ≡ true). inl (e, ap (λ b. cond b (record { generation = w.generation; phase = Won how by }) w) e))
    (λ (e : is_live w generation ≡ false). inr (e, ap (λ b. cond b (record { generation = w.generation; phase = Won how by }) w) e))
    (cases_Bool (is_live w generation))

won_agrees : (old : Phase) (how : How) (by : ℕ) (stage : Stage) → old ≡ Open → Agree stage old → Agree stage (Won how by)
won_agrees old how by Stage.Idle o a = absurd (cc)
won_agrees old how by Listing o a = λ e. cc
won_agrees old how by Checking o a = λ e. cc
won_agrees old how by Waiting o a = λ e. cc
won_agrees old how by (Over h b) o a = absurd (cc)

pub won_stays : (w : Session) (how : How) (by : ℕ) → w.phase ≡ Open → WordStays w (record { generation = w.generation; phase = Won how by })
won_stays w how by o = record {
  generation = refl;
  open_before = λ e. absurd (cc);
  agrees = λ stage. won_agrees w.phase how by stage o;
}

pub exchange_stays : (w : Session) (generation : ℕ) (how : How) (by : ℕ) → WordStays w (exchanged w generation how by)
exchange_stays w generation how by =
    ⊎_elim
    (λ (e : (is_live w generation ≡ true) × (exchanged w generation how by ≡ record { generation = w.generation; phase = Won how by })).
    subst (WordStays w) (sym e.1) (won_stays w how by (live_open w generation e.0)))
    (λ (e : (is_live w generation ≡ false) × (exchanged w generation how by ≡ w)).
    subst (WordStays w) (sym e.1) (record { generation = refl; open_before = λ o. o; agrees = λ stage a. a }))
    (exchanged_or w generation how by)

-- what holds where an exchange was tried on a pass's word
pub kept_by_exchange : (s : State) (p generation : ℕ) (how : How) (by : ℕ) → IsKept s → IsKept (with_session s p (exchanged (s.session p) generation how by))
kept_by_exchange s p generation how by k = kept_by_word s p _ k (exchange_stays (s.session p) generation how by)

-- what holds where a mark was made of an operation that is listed, or open no more
pub kept_by_mark : (s : State) (p i generation : ℕ) → IsKept s → generation ≤ (s.session p).generation
    → (IsOpen s p → i ≤ 64 → generation ≡ (s.session p).generation → IsListed s (marked_gauge s.shape (s.description p) i) p)
    → IsKept (with_mark s p i generation)
kept_by_mark s p i generation k below listed = record {
  shape = k.shape;
  values = k.values;
  debts = k.debts;
  readings = k.readings;
  owners = k.owners;
  generations = record {
    learned = k.generations.learned;
    meeting = k.generations.meeting;
    entry = k.generations.entry;
    mark =
        at-put s.marks p (put (s.marks p) i generation) (λ q m. (j : ℕ) → m j ≤ (s.session q).generation)
        (at-put (s.marks p) i generation (λ j m. m ≤ (s.session p).generation) below (λ j n. k.generations.mark p j))
        (λ q n. k.generations.mark q);
    taken = k.generations.taken;
    untaken = k.generations.untaken;
    newest = k.generations.newest;
  };
  listings = record {
    marked =
        at-put s.marks p (put (s.marks p) i generation) (λ q m. (j : ℕ) → IsOpen s q → j ≤ 64 → m j ≡ (s.session q).generation → IsListed s (marked_gauge s.shape (s.description q) j) q)
        (at-put (s.marks p) i generation (λ j m. IsOpen s p → j ≤ 64 → m ≡ (s.session p).generation → IsListed s (marked_gauge s.shape (s.description p) j) p)
        listed (λ j n. k.listings.marked p j))
        (λ q n. k.listings.marked q);
    seen = k.listings.seen;
    complete = k.listings.complete;
    right = k.listings.right;
  };
  tally = k.tally;
  time = k.time;
  opened = k.opened;
  scanners = k.scanners;
}
