-- A turn of a lock, by what the pass knew before it and knows after it.
use Rattle.std.specs.Prelude.{◌≡◌, ℕ, ◌≤◌, Bool, List, [], ◌∷◌, ◌++◌, length, slice_index}
use Rattle.partlog.specs.declared.clock_event.ClockEvent.TheVariants as clocks
use Rattle.partlog.specs.declared.clock_event.TheConstants.{MOST_MOMENT}
use Rattle.partlog.specs.declared.numbers.Numbers.{Numbers}
use Rattle.partlog.specs.Gauges.{numbers_of}
use Rattle.partlog.specs.Kept.{IsKept}
use Rattle.partlog.specs.Looked.{looked}
use Rattle.partlog.specs.Moment.{moment_of}
use Rattle.partlog.specs.State.{PartState as State, state_of}
use Rattle.kanswer.specs.Decisions.{Outcome}
use Rattle.kanswer.specs.Waiting.{gauge_value}
use Rattle.kanswer.specs.declared.entered.Entered.{Entered}
use Rattle.kanswer.specs.Entered.{HasEntered}
use Rattle.room_table.specs.Seats.{TableView}
use Rattle.purgatory.specs.scans.Desks.{desk_name}
use Rattle.turn_lock.specs.declared.known.Known.{Known}
use Rattle.turn_lock.specs.declared.lock.TurnLock.{TurnLock}
use Rattle.turn_lock.specs.declared.pass.TurnPass.{TurnPass}
use Rattle.turn_lock.specs.AddedBy.{AddedBy}
use Rattle.turn_lock.specs.Locks.{IsPassOf, IsReady, known, lock_name}
use Rattle.turn_lock.specs.OfPass.{of_pass}
use Rattle.turn_lock.specs.Passes.{begun, ended}
use Rattle.turn_lock.specs.StartsWith.{StartsWith}
use Rattle.shared_logs.specs.declared.entries.ClockEntry.{ClockEntry}
use Rattle.shared_logs.specs.declared.entries.LogEntry.{LogEntry}
use Rattle.shared_logs.specs.Desks.{MomentView, PartView, moment_name, part_name}
use Rattle.shared_logs.specs.Entries.{clock_by, clock_entries, entry_by, log_entries}
use Rattle.shared_logs.specs.Keeps.{MomentKeeps}
use Rattle.shared_logs.specs.Shrunk.{HasShrunkSome}
use Rattle.shared_logs.specs.Ticked.{HasTicked}

abbrev pub part_entries : PartView → List LogEntry
part_entries desk = log_entries desk.history

abbrev pub moment_entries : MomentView → List ClockEntry
moment_entries desk = clock_entries desk.events desk.tickers

-- The pass is one of the lock of this partition, has this number and no turn out.
pub record OpensPart (table : TableView) (part number : ℕ) (lock : TurnLock PartView LogEntry) (key : TurnPass PartView LogEntry) : Type 0 where
  pub of_lock : IsPassOf part_name lock key
  pub ready : IsReady key
  pub number_is : (known key).number ≡ number
  pub name : lock_name part_name lock ≡ slice_index (lock_name part_name lock) 0 ∷ desk_name table part

-- the same of the clock's lock
pub record OpensClock (table : TableView) (number : ℕ) (lock : TurnLock MomentView ClockEntry) (key : TurnPass MomentView ClockEntry) : Type 0 where
  pub of_lock : IsPassOf moment_name lock key
  pub ready : IsReady key
  pub number_is : (known key).number ≡ number
  pub gauge : ℕ
  pub name : lock_name moment_name lock ≡ desk_name table gauge

module _ {T E : Type 0} (entries : T → List E) (by : E → ℕ) where
  -- The pass found this value: its history begins with all that the pass had seen, and of the pass's own entries it has those that the
  -- pass left and no other.
  pub record HasFound (before : Known E) (found : T) : Type 0 where
    pub seen : StartsWith (entries found) before.seen
    pub own : of_pass by before.number (entries found) ≡ before.mine

  -- It left that one, to whose history it added entries of its own alone.
  pub record HasLeft (before after : Known E) (found left : T) : Type 0 where
    pub found_is : HasFound before found
    pub added : AddedBy by before.number (entries found) (entries left)
    pub after_is : after ≡ ended entries left (begun entries 0 found before)

-- the pass saw more of the history, and left nothing
pub record HasSeenMore {E : Type 0} (first now : Known E) : Type 0 where
  pub number : now.number ≡ first.number
  pub name : now.name ≡ first.name
  pub mine : now.mine ≡ first.mine
  pub seen : StartsWith now.seen first.seen

-- a whole turn of a partition's lock
pub record WasPartTurn (before after : Known LogEntry) (found left : PartView) : Type 0 where
  pub turn : HasLeft part_entries entry_by before after found left
  pub name_found : part_name found ≡ before.name
  pub name_left : part_name left ≡ before.name
  pub kept_found : IsKept found.history.log found.history.events
  pub kept_left : IsKept left.history.log left.history.events

-- one that left nothing
abbrev pub SawPart : Known LogEntry → Known LogEntry → Type 0
SawPart before after = (found : PartView) × WasPartTurn before after found found

-- one in which the log was asked, at this moment
pub record AskedPart (seq moment : ℕ) (outcome : State → Outcome) (before after : Known LogEntry) (entered : Entered) (numbers : Numbers) : Type 0 where
  pub found : PartView
  pub left : PartView
  pub turn : WasPartTurn before after found left
  pub entry : HasEntered before.number seq moment outcome found.history left.history entered
  pub numbers_are : numbers ≡ numbers_of (state_of left.history)

-- one in which it was looked at
pub record LookedAtPart (seq gauge least : ℕ) (before after : Known LogEntry) (place : ℕ) (numbers : Numbers) : Type 0 where
  pub found : PartView
  pub left : PartView
  pub turn : WasPartTurn before after found left
  pub entry : left.history ≡ looked found.history before.number seq
  pub place_is : place ≡ length found.history.events
  pub numbers_are : numbers ≡ numbers_of (state_of found.history)
  pub late : least ≤ gauge_value gauge (state_of found.history)

-- one in which followers were taken out that lagged at this moment, some of the first of them or all
pub record ShrunkPart (t : ℕ) (before after : Known LogEntry) : Type 0 where
  pub found : PartView
  pub left : PartView
  pub turn : WasPartTurn before after found left
  pub taken : HasShrunkSome before.number t found.history left.history

-- a whole turn of the clock's lock
pub record WasClockTurn (before after : Known ClockEntry) (found left : MomentView) : Type 0 where
  pub turn : HasLeft moment_entries clock_by before after found left
  pub name_found : moment_name found ≡ before.name
  pub name_left : moment_name left ≡ before.name
  pub keeps_found : MomentKeeps found
  pub keeps_left : MomentKeeps left

abbrev pub SawClock : Known ClockEntry → Known ClockEntry → Type 0
SawClock before after = (found : MomentView) × WasClockTurn before after found found

-- one in which it was told a moment
pub record ToldClock (t : ℕ) (before after : Known ClockEntry) (rose : Bool) : Type 0 where
  pub found : MomentView
  pub left : MomentView
  pub turn : WasClockTurn before after found left
  pub told : HasTicked before.number t rose found left

-- one in which it was looked at
pub record LookedAtClock (seq least : ℕ) (before after : Known ClockEntry) (place moment : ℕ) : Type 0 where
  pub found : MomentView
  pub left : MomentView
  pub turn : WasClockTurn before after found left
  pub entry : left.events ≡ found.events ++ clocks.Look before.number seq ∷ []
  pub place_is : place ≡ length found.events
  pub moment_is : moment ≡ moment_of found.events
  pub late : least ≤ moment
  pub limit : moment ≤ MOST_MOMENT
