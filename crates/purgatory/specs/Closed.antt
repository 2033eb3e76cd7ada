-- What is so of a room that was closed.
use Rattle.std.specs.Prelude.{◌≡◌, ℕ, ◌<◌, List, All, length, slice_index}
use Rattle.opcond.specs.Tally.{IsSatisfied}
use Rattle.room_core.specs.declared.parts.Stage.{Stage}
use Rattle.room_core.specs.Counts.{taken_by}
use Rattle.room_core.specs.Described.{operation_of, values_in}
use Rattle.room_core.specs.Gauges.{clock_of}
use Rattle.room_core.specs.State.{State}
use Rattle.room_core.specs.Wins.{wins_of}
use Rattle.room_table.specs.Handed.{AreShown}
use Rattle.room_table.specs.Seats.{CallerView, SourceView, caller_now}
use Rattle.purgatory.specs.scans.Listing.{open_at}
use Rattle.purgatory.specs.Ends.{StillView}
use Rattle.purgatory.specs.Rooms.{winners}

-- what the sources have stored, by gauge
abbrev pub stored_in : State → ℕ → ℕ
stored_in state gauge = (state.source gauge).stored

-- the operation that these words describe can't be answered by what the sources have stored
pub record IsUnanswerable (state : State) (words : ℕ → ℕ) : Type 0 where
  pub unsatisfied : ¬ IsSatisfied (operation_of words) (values_in words (stored_in state))
  pub early : stored_in state (clock_of state.shape) < (operation_of words).deadline

-- where the pass waits: its word is open at its generation, and its operation can't be answered
pub record IsLeftOpen (state : State) (seat : CallerView) : Type 0 where
  pub word : state.session seat.pass ≡ open_at (caller_now seat).generation
  pub unanswerable : IsUnanswerable state (caller_now seat).description

-- The words at the close and what the seats know show a state that the room's machine carries. Every pass that waits was left open there.
-- By its number each winner has what it won, all of which was taken: as many items taken name it.
pub record IsClosed (still : StillView) (sources : List SourceView) (numbers : List ℕ) : Type 0 where
  pub words : List ℕ
  pub shown : AreShown still.table sources still.callers still.scanners words
  pub waiting : All (λ (seat : CallerView). (caller_now seat).stage ≡ Stage.Waiting → IsLeftOpen shown.state seat) still.callers
  pub size : length numbers ≡ winners still.table
  pub won : (by : ℕ) → by < winners still.table → slice_index numbers by ≡ length (wins_of shown.state.scanner shown.state.caller by)
  pub taken : (by : ℕ) → by < winners still.table → slice_index numbers by ≡ taken_by shown.state by
