-- Passes and sources of a room, and what is so of them between two calls.
use Rattle.std.specs.Prelude.{◌≡◌, Bool, true, false, List, All}
use Rattle.room_core.specs.declared.parts.Stage.{Stage}
use Rattle.room_core.specs.State.{Caller}
use Rattle.room_table.specs.Seats.{SourceView, caller_now}
use Rattle.purgatory.specs.Going.{OwesNothing}
use Rattle.purgatory.specs.Rooms.{IsOfRoom, IsSourceOf, PassView, RoomView}

-- a pass of the room that has no operation and owes nothing
pub record IsNewPass (room : RoomView) (pass : PassView) : Type 0 where
  pub made : IsOfRoom room pass
  pub idle : (caller_now pass.seat).stage ≡ Stage.Idle
  pub paid : OwesNothing (caller_now pass.seat)

-- whether its operation waits, or it has none
abbrev pub stage_if : Bool → Stage
stage_if true = Stage.Waiting
stage_if false = Stage.Idle

-- a pass that owes nothing and is at that stage
pub record IsInHand (waits : Bool) (pass : PassView) : Type 0 where
  pub paid : OwesNothing (caller_now pass.seat)
  pub stage : (caller_now pass.seat).stage ≡ stage_if waits

-- passes and sources
pub record CrewView : Type 0 where
  pub passes : List PassView
  pub sources : List SourceView

-- which were made with the room
pub record IsCrewOf (room : RoomView) (crew : CrewView) : Type 0 where
  pub passes : All (IsOfRoom room) crew.passes
  pub sources : All (IsSourceOf room) crew.sources
