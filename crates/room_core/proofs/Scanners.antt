-- An event that changes one scanner alone.
use Rattle.std.proofs.Common.{◌∙◌, ◌≡◌, ℕ, ◌<◌, ◌≤◌, sym, refl, arith, Some}
use Rattle.room_core.specs.declared.parts.Heard.{Heard}
use Rattle.room_core.specs.declared.parts.Entry.{Entry}
use Rattle.room_core.specs.declared.parts.Meeting.{Meeting}
use Rattle.room_core.specs.Put.{put}
use Rattle.room_core.specs.Duty.{IsOpen, ScannerFinds, ShardFinds, FindsTally, FindsTime}
use Rattle.room_core.specs.Sound.{IsEntry}
use Rattle.room_core.specs.Carried.{ScannerIsKept}
use Rattle.room_core.specs.State.{State, Scanner}
use Rattle.room_core.proofs.Facts.{GenerationsAreSound, IsRightEntry, ListingsAreSound}
use Rattle.room_core.proofs.Puts.{at-put}
use Rattle.room_core.proofs.Finding.{either_too}
use Rattle.room_core.proofs.Kept.{IsKept}

abbrev pub with_scanner : State → ℕ → Scanner → State
with_scanner s k new = record s { scanner = put s.scanner k new }

-- what the scanner has to keep
pub record ScannerStays (s : State) (k : ℕ) (new : Scanner) : Type 0 where
  pub began : (gauge : ℕ) → new.began gauge ≡ (s.scanner k).began gauge
  pub heard : (heard : Heard) → new.heard ≡ Some heard → heard.number ≤ s.asked heard.gauge
  pub readings : (gauge value : ℕ) → new.readings gauge ≡ Some value → value ≤ s.value gauge
  pub learned : (at word : ℕ) (meeting : Meeting) → new.meeting ≡ Some meeting → IsOpen s meeting.pass
      → (s.session meeting.pass).generation ≡ meeting.generation → new.learned at ≡ Some word → word ≡ s.description meeting.pass at
  pub meeting : (meeting : Meeting) → new.meeting ≡ Some meeting → meeting.generation ≤ (s.session meeting.pass).generation
  pub entry : (gauge pass : ℕ) (entry : Entry) → new.listing gauge pass ≡ Some entry → entry.generation ≤ (s.session pass).generation
  pub live : (gauge pass : ℕ) → IsOpen s pass → IsEntry ((s.scanner k).listing gauge pass) (s.session pass).generation
      → IsEntry (new.listing gauge pass) (s.session pass).generation
  pub right : (gauge pass : ℕ) (entry : Entry) → IsOpen s pass → new.listing gauge pass ≡ Some entry
      → entry.generation ≡ (s.session pass).generation → IsRightEntry s gauge pass entry
  pub tally : (pass : ℕ) → k < 16 → IsOpen s pass
      → ScannerFinds (FindsTally (s.description pass) s.value) (s.scanner k) pass (s.session pass).generation
      → ScannerFinds (FindsTally (s.description pass) s.value) new pass (s.session pass).generation
  pub time : (pass : ℕ) → k ≡ 16 → IsOpen s pass
      → ScannerFinds (FindsTime s.shape (s.description pass) s.value) (s.scanner k) pass (s.session pass).generation
      → ScannerFinds (FindsTime s.shape (s.description pass) s.value) new pass (s.session pass).generation
  pub kept : ScannerIsKept s.shape k new

module _ (s : State) (k : ℕ) (new : Scanner) (r : IsKept s) (c : ScannerStays s k new) where
  -- what is listed of an open operation stays listed
  pub still_listed : (j gauge pass : ℕ) → IsOpen s pass → IsEntry ((s.scanner j).listing gauge pass) (s.session pass).generation → IsEntry ((put s.scanner k new j).listing gauge pass) (s.session pass).generation
  still_listed j gauge pass o =
      at-put s.scanner k new (λ i x. IsEntry ((s.scanner i).listing gauge pass) (s.session pass).generation → IsEntry (x.listing gauge pass) (s.session pass).generation)
      (c.live gauge pass o) (λ i n e. e) j

  generations : GenerationsAreSound (with_scanner s k new)
  generations = record {
    learned = λ j at word meeting.
        at-put s.scanner k new (λ i x. x.meeting ≡ Some meeting → IsOpen s meeting.pass → (s.session meeting.pass).generation ≡ meeting.generation → x.learned at ≡ Some word → word ≡ s.description meeting.pass at)
        (c.learned at word meeting) (λ i n. r.generations.learned i at word meeting) j;
    meeting = λ j meeting.
        at-put s.scanner k new (λ i x. x.meeting ≡ Some meeting → meeting.generation ≤ (s.session meeting.pass).generation)
        (c.meeting meeting) (λ i n. r.generations.meeting i meeting) j;
    entry = λ j gauge pass entry.
        at-put s.scanner k new (λ i x. x.listing gauge pass ≡ Some entry → entry.generation ≤ (s.session pass).generation)
        (c.entry gauge pass entry) (λ i n. r.generations.entry i gauge pass entry) j;
    mark = r.generations.mark;
    taken = r.generations.taken;
    untaken = r.generations.untaken;
    newest = λ j gauge meeting entry.
        at-put s.scanner k new (λ i x. x.meeting ≡ Some meeting → x.listing gauge meeting.pass ≡ Some entry → entry.generation ≤ meeting.generation)
        (λ m e. let q : entry.generation ≡ meeting.generation = c.kept.met gauge meeting entry m e in omega arith) (λ i n. r.generations.newest i gauge meeting entry) j;
  }

  listings : ListingsAreSound (with_scanner s k new)
  listings = record {
    marked = λ pass i o l m. still_listed _ _ pass o (r.listings.marked pass i o l m);
    seen = λ pass i o l m. still_listed _ _ pass o (r.listings.seen pass i o l m);
    complete = λ pass i o l m. still_listed _ _ pass o (r.listings.complete pass i o l m);
    right = λ j gauge pass entry o.
        at-put s.scanner k new (λ i x. x.listing gauge pass ≡ Some entry → entry.generation ≡ (s.session pass).generation → IsRightEntry s gauge pass entry)
        (c.right gauge pass entry o) (λ i n. r.listings.right i gauge pass entry o) j;
  }

  pub kept_by_scanner : IsKept (with_scanner s k new)
  kept_by_scanner = record {
    shape = r.shape;
    values = record {
      begun = r.values.begun;
      asked = r.values.asked;
      stored = r.values.stored;
      loud = r.values.loud;
      own = λ gauge i.
          r.values.own gauge i ∙ at-put s.scanner k new (λ j x. (s.scanner j).began gauge ≡ x.began gauge) (sym (c.began gauge)) (λ j n. refl) _;
    };
    debts = record {
      owed = r.debts.owed;
      heard = λ j heard.
          at-put s.scanner k new (λ i x. x.heard ≡ Some heard → heard.number ≤ s.asked heard.gauge) (c.heard heard) (λ i n. r.debts.heard i heard) j;
      someone = r.debts.someone;
    };
    readings = record {
      greatest = r.readings.greatest;
      owner = r.readings.owner;
      scanner = λ j gauge value.
          at-put s.scanner k new (λ i x. x.readings gauge ≡ Some value → value ≤ s.value gauge) (c.readings gauge value) (λ i n. r.readings.scanner i gauge value) j;
    };
    owners = r.owners;
    generations = generations;
    listings = listings;
    tally = λ pass o sat.
        either_too
        (either_too
        (λ f. f)
        (λ (f : ShardFinds (FindsTally (s.description pass) s.value) s.scanner pass (s.session pass).generation).
        record {
          number = f.number;
          shard = f.shard;
          here = at-put s.scanner k new (λ i x. i < 16 → ScannerFinds (FindsTally (s.description pass) s.value) (s.scanner i) pass (s.session pass).generation → ScannerFinds (FindsTally (s.description pass) s.value) x pass (s.session pass).generation)
              (λ b. c.tally pass b o) (λ i n b g. g) f.number f.shard f.here;
        }))
        (λ l. l)
        (r.tally pass o sat);
    time = λ pass o d.
        either_too
        (λ f. f)
        (at-put s.scanner k new (λ i x. i ≡ 16 → ScannerFinds (FindsTime s.shape (s.description pass) s.value) (s.scanner i) pass (s.session pass).generation → ScannerFinds (FindsTime s.shape (s.description pass) s.value) x pass (s.session pass).generation)
        (λ b. c.time pass b o) (λ i n b g. g) 16 refl)
        (r.time pass o d);
    opened = r.opened;
    scanners = at-put s.scanner k new (λ i x. ScannerIsKept s.shape i x) c.kept (λ i n. r.scanners i);
  }
