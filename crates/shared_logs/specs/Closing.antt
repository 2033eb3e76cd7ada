-- The logs as they are closed: what each pass saw, with all that came later.
use Rattle.std.specs.Prelude.{◌≡◌, ℕ, ◌<◌, ◌≤◌, ◌==◌, ◌↔◌, List, ◌∷◌, All, Any, Contains, Some, count_by, fold, length, map, max, slice_get, slice_index, sum_by}
use Rattle.std.specs.List.{flat_map}
use Rattle.std.specs.List.Sorted.{IsStrictlyIncreasing}
use Rattle.partlog.specs.declared.clock_event.ClockEvent.{ClockEvent}
use Rattle.partlog.specs.declared.event.PartEvent.{PartEvent}
use Rattle.partlog.specs.History.{History}
use Rattle.partlog.specs.Lagging.{LeftLate}
use Rattle.partlog.specs.Moment.{moment_of}
use Rattle.opcond.specs.Operation.{Operation}
use Rattle.opcond.specs.Tally.{IsSatisfied}
use Rattle.audit.specs.Histories.{ticks_of}
use Rattle.audit.specs.broker.Board.{gauge_now}
use Rattle.audit.specs.broker.GoesOn.{AllWhole, the_owner}
use Rattle.audit.specs.broker.Kept.{owners_at}
use Rattle.audit.specs.broker.Timely.{events_at, pass_of}
use Rattle.room_core.specs.declared.parts.Stage.{Stage}
use Rattle.room_core.specs.Described.{operation_of}
use Rattle.room_table.specs.Seats.{CallerView, caller_now}
use Rattle.purgatory.specs.Rooms.{PassView, winners}
use Rattle.shared_logs.specs.Coming.{OthersCame}
use Rattle.shared_logs.specs.Shared.{LogPassView, SharedView, followers_in}

-- the operation isn't answerable by these histories
pub record IsUnanswerable (parts : List History) (clock : List ClockEvent) (op : Operation) : Type 0 where
  pub unsatisfied : ¬ IsSatisfied op (map (gauge_now parts) op.needs)
  pub early : moment_of clock < op.deadline

-- how many operations that this winner won a pass has taken the end of
abbrev pub taken_from : ℕ → CallerView → ℕ
taken_from by seat = count_by (λ item. item.by == by) (caller_now seat).taken

-- whole histories, one for each partition, and a clock whose ticks rise
pub record AreLogs (shared : SharedView) (parts : List History) (clock : List ClockEvent) : Type 0 where
  pub whole : AllWhole parts
  pub followers : map (λ h. h.followers) parts ≡ followers_in shared
  pub ticks : IsStrictlyIncreasing (0 ∷ ticks_of clock)

pub record AreClosed (shared : SharedView) (passes : List LogPassView) (parts : List History) (clock : List ClockEvent) (numbers : List ℕ) : Type 0 where
  pub logs : AreLogs shared parts clock
  -- they go on from what each pass saw, and it left nothing behind that
  pub each : All (λ (pass : LogPassView). OthersCame pass.number pass.parts pass.clock parts clock) passes
  -- each entry names a pass that there is, and of each there is one
  pub known : (part place by seq : ℕ) → slice_get (owners_at parts clock part) place ≡ Some (the_owner by seq) → by < length passes
  pub known_entries : (part place : ℕ) (event : PartEvent) → slice_get (events_at parts part) place ≡ Some event → pass_of event < length passes
  pub one : (number : ℕ) → number < length passes → count_by (λ (pass : LogPassView). pass.number == number) passes ≡ 1
  -- whoever was taken out lagged then
  pub late : (part : ℕ) (h : History) → slice_get parts part ≡ Some h → LeftLate h.followers h.events
  -- what waits isn't answerable
  pub still : All (λ (pass : LogPassView). (caller_now pass.seat).stage ≡ Stage.Waiting → IsUnanswerable parts clock (operation_of (caller_now pass.seat).description)) passes
  -- each winner's number is that of the ends that the passes have taken from it
  pub size : length numbers ≡ winners shared.room.table
  pub wins : (by : ℕ) → by < winners shared.room.table → slice_index numbers by ≡ sum_by (λ (pass : LogPassView). taken_from by pass.seat) passes
  -- and nobody else has won any
  pub others : (by : ℕ) → winners shared.room.table ≤ by → sum_by (λ (pass : LogPassView). taken_from by pass.seat) passes ≡ 0
  -- a tick is in the clock's history exactly where a pass added it, each pass added its own in their order, and the moment is the greatest
  -- of all
  pub ticks : (t : ℕ) → Contains (ticks_of clock) t ↔ Any (λ (pass : LogPassView). Contains pass.ticked t) passes
  pub rising : All (λ (pass : LogPassView). IsStrictlyIncreasing (0 ∷ pass.ticked)) passes
  pub moment : moment_of clock ≡ fold max 0 (flat_map (λ (pass : LogPassView). pass.ticked) passes)

-- the passes, as those of the room
abbrev pub in_room : LogPassView → PassView
in_room pass = record { seat = pass.seat; locks = pass.made.room.locks }
