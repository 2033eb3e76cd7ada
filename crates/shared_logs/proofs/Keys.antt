-- What a pass knows of a lock, as its turn goes on and as it takes turns that leave nothing.
use Rattle.std.proofs.Common.{◌≡◌, ℕ, List, [], ◌++◌, drop, length, refl, sym, ap, subst, ◌∙◌, append_assoc, append-nil}
use Rattle.std.proofs.Math.Seq.{drop-length}
use Rattle.std.proofs.lemmas.List.Elements.{All-nil}
use Rattle.partlog.specs.Kept.{IsKept}
use Rattle.partlog.specs.Moment.{moment_of}
use Rattle.turn_lock.specs.declared.known.Known.{Known}
use Rattle.turn_lock.specs.AddedBy.{AddedBy}
use Rattle.turn_lock.specs.OfPass.{of_pass}
use Rattle.turn_lock.specs.Passes.{begun, ended}
use Rattle.shared_logs.specs.declared.entries.ClockEntry.{ClockEntry}
use Rattle.shared_logs.specs.declared.entries.LogEntry.{LogEntry}
use Rattle.shared_logs.specs.Desks.{MomentView, PartView, moment_name, part_name}
use Rattle.shared_logs.specs.Entries.{clock_by, clock_entries, entry_by, log_entries}
use Rattle.shared_logs.specs.Histories.{events_of}
use Rattle.shared_logs.specs.Keeps.{MomentKeeps, PartKeeps}
use Rattle.shared_logs.proofs.Beside.{clock_events}
use Rattle.shared_logs.specs.Turned.{HasFound, HasLeft, HasSeenMore, WasClockTurn, WasPartTurn, moment_entries, part_entries}

pub more_self : {E : Type 0} (k : Known E) → HasSeenMore k k
more_self k = record { number = refl; name = refl; mine = refl; seen = ([], sym (append-nil k.seen)) }

module _ {T E : Type 0} (entries : T → List E) (by : E → ℕ) where
  -- what was found goes on from what was seen at first
  pub found_first : (first now : Known E) (found : T) → HasSeenMore first now → HasFound entries by now found → HasFound entries by first found
  found_first first now found more is = record {
    seen = (
      more.seen.0 ++ is.seen.0,
      is.seen.1 ∙ ap (λ (es : List E). es ++ is.seen.0) more.seen.1 ∙ append_assoc first.seen more.seen.0 is.seen.0,
    );
    own = subst (λ (n : ℕ). of_pass by n (entries found) ≡ first.mine) more.number (is.own ∙ more.mine);
  }

  -- a turn that left nothing
  pub more_turned : (first now after : Known E) (ticket : ℕ) (found : T) → HasSeenMore first now → HasFound entries by now found → after ≡ ended entries found (begun entries ticket found now)
      → HasSeenMore first after
  more_turned first now after ticket found more is e =
      let none : now.mine ++ drop (length (entries found)) (entries found) ≡ now.mine = ap (λ (es : List E). now.mine ++ es) (drop-length (entries found)) ∙ append-nil now.mine in
      record {
        number = ap (λ (k : Known E). k.number) e ∙ more.number;
        name = ap (λ (k : Known E). k.name) e ∙ more.name;
        mine = ap (λ (k : Known E). k.mine) e ∙ none ∙ more.mine;
        seen = subst (λ (es : List E). (rest : List E) × (es ≡ first.seen ++ rest)) (sym (ap (λ (k : Known E). k.seen) e)) (found_first first now found more is).seen;
      }

  -- the turn that begins now is as if it began at first
  pub begun_first : (first now : Known E) (ticket : ℕ) (found : T) → HasSeenMore first now → begun entries ticket found now ≡ begun entries ticket found first
  begun_first first now ticket found more =
      let f = λ (n : ℕ) (name : List ℕ) (mine : List E). begun entries ticket found (record { number = n; name = name; seen = []; mine = mine; stage = first.stage }) in
      ap (λ (n : ℕ). f n now.name now.mine) more.number ∙ ap (λ (xs : List ℕ). f first.number xs now.mine) more.name ∙ ap (f first.number first.name) more.mine

  -- nothing was added in the turn
  pub none_added : (before key : Known E) (ticket : ℕ) (found : T) → key ≡ begun entries ticket found before → AddedBy by key.number key.seen (entries found)
  none_added before key ticket found e = ([], sym (ap (λ (k : Known E). k.seen) e) ∙ sym (append-nil key.seen), All-nil (λ x. by x ≡ key.number))

  -- so much was
  pub some_added : (before key : Known E) (number ticket : ℕ) (found left : T) → key ≡ begun entries ticket found before → before.number ≡ number → AddedBy by number (entries found) (entries left)
      → AddedBy by key.number key.seen (entries left)
  some_added before key number ticket found left e same added =
      let A : ℕ → List E → Type 0 = λ n es. AddedBy by n es (entries left) in
      subst (λ (k : Known E). A k.number k.seen) (sym e) (subst (λ (n : ℕ). A n (entries found)) (sym same) added)

  -- the whole turn
  pub has_left : (before key after : Known E) (number ticket : ℕ) (found left : T) → HasFound entries by before found → key ≡ begun entries ticket found before → after ≡ ended entries left key
      → before.number ≡ number → AddedBy by number (entries found) (entries left) → HasLeft entries by before after found left
  has_left before key after number ticket found left is e f same added = record {
    found_is = is;
    added = subst (λ (n : ℕ). AddedBy by n (entries found) (entries left)) (sym same) added;
    after_is = f ∙ ap (ended entries left) e;
  }

-- a turn of a partition's lock that began, and was found so
pub record BeganPart (before key : Known LogEntry) (name : List ℕ) (ticket : ℕ) (found : PartView) : Type 0 where
  pub found_is : HasFound part_entries entry_by before found
  pub begun_is : key ≡ begun part_entries ticket found before
  pub named : part_name found ≡ name
  pub keeps : PartKeeps found

-- it ends
pub part_turned : (before key after : Known LogEntry) (name : List ℕ) (number ticket : ℕ) (found left : PartView) → BeganPart before key name ticket found → after ≡ ended part_entries left key → before.number ≡ number
    → before.name ≡ name → AddedBy entry_by number (log_entries found.history) (log_entries left.history) → part_name left ≡ part_name found → IsKept left.history.log left.history.events
    → WasPartTurn before after found left
part_turned before key after name number ticket found left began f same named added left_name kept = record {
  turn = has_left part_entries entry_by before key after number ticket found left began.found_is began.begun_is f same added;
  name_found = began.named ∙ sym named;
  name_left = left_name ∙ began.named ∙ sym named;
  kept_found = began.keeps.kept;
  kept_left = kept;
}

-- the same of the clock's lock
pub record BeganClock (before key : Known ClockEntry) (name : List ℕ) (ticket : ℕ) (found : MomentView) : Type 0 where
  pub found_is : HasFound moment_entries clock_by before found
  pub begun_is : key ≡ begun moment_entries ticket found before
  pub named : moment_name found ≡ name
  pub keeps : MomentKeeps found

pub clock_turned : (before key after : Known ClockEntry) (name : List ℕ) (number ticket : ℕ) (found left : MomentView) → BeganClock before key name ticket found → after ≡ ended moment_entries left key → before.number ≡ number
    → before.name ≡ name → AddedBy clock_by number (clock_entries found.events found.tickers) (clock_entries left.events left.tickers) → moment_name left ≡ moment_name found → MomentKeeps left
    → WasClockTurn before after found left
clock_turned before key after name number ticket found left began f same named added left_name keeps = record {
  turn = has_left moment_entries clock_by before key after number ticket found left began.found_is began.begun_is f same added;
  name_found = began.named ∙ sym named;
  name_left = left_name ∙ began.named ∙ sym named;
  keeps_found = began.keeps;
  keeps_left = keeps;
}

-- the clock's moment is that of the history that the pass has seen then
pub moment_seen : (key after : Known ClockEntry) (left : MomentView) (moment : ℕ) → after ≡ ended moment_entries left key → moment ≡ moment_of left.events → moment ≡ moment_of (events_of after.seen)
moment_seen key after left moment f e =
    e ∙ sym (ap moment_of (ap (λ (k : Known ClockEntry). events_of k.seen) f ∙ clock_events left.events left.tickers))
