-- What is left of locks that were closed with all their passes.
use Rattle.std.specs.Prelude.{◌≡◌, ℕ, ◌+◌, ◌*◌, ◌<◌, ◌==◌, List, [], ◌∷◌, ◌++◌, All, Some, count_by, length, map, slice_get, slice_index, ⊤}
use Rattle.std.specs.List.Sorted.{IsStrictlyIncreasing}
use Rattle.partlog.specs.declared.clock_event.ClockEvent.{ClockEvent}
use Rattle.partlog.specs.declared.numbers.Numbers.{Numbers}
use Rattle.partlog.specs.Gauges.{numbers_of}
use Rattle.partlog.specs.History.{History}
use Rattle.partlog.specs.Kept.{IsKept}
use Rattle.partlog.specs.Lagging.{LeftLate}
use Rattle.partlog.specs.Moment.{moment_of}
use Rattle.partlog.specs.State.{state_of}
use Rattle.audit.specs.Histories.{ticks_of}
use Rattle.turn_lock.specs.declared.lock.TurnLock.{TurnLock}
use Rattle.turn_lock.specs.declared.pass.TurnPass.{TurnPass}
use Rattle.turn_lock.specs.Locks.{known, lock_name}
use Rattle.turn_lock.specs.OfPass.{of_pass}
use Rattle.turn_lock.specs.StartsWith.{StartsWith}
use Rattle.shared_logs.specs.declared.entries.ClockEntry.{ClockEntry}
use Rattle.shared_logs.specs.declared.entries.LogEntry.{LogEntry}
use Rattle.shared_logs.specs.Desks.{MomentView, PartView, moment_name, part_name}
use Rattle.shared_logs.specs.Entries.{clock_by, clock_entries, entry_by, log_entries}
use Rattle.room_core.specs.declared.parts.Source.{Source}
use Rattle.purgatory.specs.scans.Desks.{desk_name}
use Rattle.room_table.specs.Seats.{SourceView, TableView, source_now}
use Rattle.purgatory.specs.Closed.{IsClosed}
use Rattle.purgatory.specs.Ends.{StillView}
use Rattle.purgatory.specs.Making.{AreFrom}
use Rattle.shared_logs.specs.declared.hands.Hand.{Hand}

-- the entries go on from what the pass saw, and have of the pass just what it knows as its own
module _ {T E : Type 0} where
  pub record IsTold (by : E → ℕ) (entries : List E) (pass : TurnPass T E) : Type 0 where
    pub seen : StartsWith entries (known pass).seen
    pub mine : of_pass by (known pass).number entries ≡ (known pass).mine

-- of each log a pass, which it was told
abbrev pub AreTold : List History → List (TurnPass PartView LogEntry) → Type 0
AreTold [] [] = ⊤
AreTold [] (pass ∷ passes) = ⊥
AreTold (h ∷ logs) [] = ⊥
AreTold (h ∷ logs) (pass ∷ passes) = IsTold entry_by (log_entries h) pass × AreTold logs passes

-- The hand with which the closing began, and what is left of it: the passes that are gone were told these logs.
pub record HasGone (logs : List History) (hand rest : Hand) : Type 0 where
  pub gone : List (TurnPass PartView LogEntry)
  pub parts : hand.parts.items ≡ gone ++ rest.parts.items
  pub told : AreTold logs gone
  pub clock : rest.clock ≡ hand.clock
  pub number : rest.number ≡ hand.number

abbrev pub HaveGone : List History → List Hand → List Hand → Type 0
HaveGone logs [] [] = ⊤
HaveGone logs [] (rest ∷ rests) = ⊥
HaveGone logs (hand ∷ hands) [] = ⊥
HaveGone logs (hand ∷ hands) (rest ∷ rests) = HasGone logs hand rest × HaveGone logs hands rests

-- the lock has the name of the desk of the partition of this number
abbrev pub IsNamed : TableView → ℕ → TurnLock PartView LogEntry → Type 0
IsNamed table part lock = lock_name part_name lock ≡ slice_index (lock_name part_name lock) 0 ∷ desk_name table part

-- a partition's sources have stored these numbers
pub record HaveStored (source : ℕ → Source) (part : ℕ) (numbers : Numbers) : Type 0 where
  pub high : (source (3 * part)).stored ≡ numbers.high
  pub visible : (source (3 * part + 1)).stored ≡ numbers.visible
  pub end : (source (3 * part + 2)).stored ≡ numbers.bytes

-- sources that a state shows have stored there the numbers of these histories
abbrev pub TellOf : List History → List SourceView → Type 0
TellOf logs sources = (source : ℕ → Source) → All (λ (seat : SourceView). source seat.gauge ≡ source_now seat) sources
    → (part : ℕ) (h : History) → slice_get logs part ≡ Some h → HaveStored source part (numbers_of (state_of h))

-- what came out of the partitions' locks, which had so many passes
pub record AreOut (passes : ℕ) (logs : List History) : Type 0 where
  pub kept : All (λ (h : History). IsKept h.log h.events) logs
  pub whose : All (λ (h : History). All (λ (entry : LogEntry). entry_by entry < passes) (log_entries h)) logs
  pub late : All (λ (h : History). LeftLate h.followers h.events) logs

pub record AreSourcesOf (table : TableView) (logs : List History) (sources : List SourceView) : Type 0 where
  pub count : length sources ≡ 3 * length logs
  pub tables : All (λ (source : SourceView). source.table ≡ table) sources
  pub tell : TellOf logs sources

-- the numbers of followers in the locks' names
abbrev pub followers_named : List (TurnLock PartView LogEntry) → List ℕ
followers_named locks = map (λ (lock : TurnLock PartView LogEntry). slice_index (lock_name part_name lock) 0) locks

-- what came out of the clock's lock, and the source of its gauge
pub record IsClockOut (lock : TurnLock MomentView ClockEntry) (hands : List Hand) (events : List ClockEvent) (source : SourceView) : Type 0 where
  pub tickers : List ℕ
  pub told : All (λ (hand : Hand). IsTold clock_by (clock_entries events tickers) hand.clock) hands
  pub whose : All (λ (entry : ClockEntry). clock_by entry < length hands) (clock_entries events tickers)
  pub one : (number : ℕ) → number < length hands → count_by (λ (hand : Hand). hand.number == number) hands ≡ 1
  pub ticks : IsStrictlyIncreasing (0 ∷ ticks_of events)
  pub stored : (source_now source).stored ≡ moment_of events
  pub name : moment_name (record { events = events; tickers = tickers; source = source }) ≡ lock_name moment_name lock

-- all that came out: of the partitions' locks, of the clock's, and of the room
pub record AreAllOut (still : StillView) (parts : List (TurnLock PartView LogEntry)) (lock : TurnLock MomentView ClockEntry) (hands : List Hand)
    (logs : List History) (events : List ClockEvent) (wins : List ℕ) : Type 0 where
  pub rests : List Hand
  pub sources : List SourceView
  pub source : SourceView
  pub gone : HaveGone logs hands rests
  pub out : AreOut (length hands) logs
  pub followers : map (λ (h : History). h.followers) logs ≡ followers_named parts
  pub tell : TellOf logs sources
  pub clock : IsClockOut lock hands events source
  pub gauge : source.gauge ≡ 3 * length parts
  pub closed : IsClosed still (sources ++ source ∷ []) wins

-- the locks are those of a room's partitions and of its clock
pub record AreOfRoom (table : TableView) (parts : List (TurnLock PartView LogEntry)) (lock : TurnLock MomentView ClockEntry) : Type 0 where
  pub gauges : table.shape.gauges ≡ 3 * length parts + 1
  pub named : AreFrom (IsNamed table) 0 parts
  pub clock_named : lock_name moment_name lock ≡ desk_name table (3 * length parts)
