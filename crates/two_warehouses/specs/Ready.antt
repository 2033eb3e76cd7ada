-- A pass between two calls.
use Rattle.std.specs.Prelude.{◌≡◌}
use Rattle.room_core.specs.declared.parts.Stage.{Stage}
use Rattle.room_table.specs.Seats.{caller_now}
use Rattle.purgatory.specs.Going.{OwesNothing}
use Rattle.purgatory.specs.Rooms.{IsOfRoom, PassView, RoomView}

-- a pass of the room that has no operation and owes nothing
pub record IsReady (room : RoomView) (pass : PassView) : Type 0 where
  pub made : IsOfRoom room pass
  pub idle : (caller_now pass.seat).stage ≡ Stage.Idle
  pub paid : OwesNothing (caller_now pass.seat)

-- one whose operation waits
pub record IsParked (room : RoomView) (pass : PassView) : Type 0 where
  pub made : IsOfRoom room pass
  pub waits : (caller_now pass.seat).stage ≡ Stage.Waiting
  pub paid : OwesNothing (caller_now pass.seat)
