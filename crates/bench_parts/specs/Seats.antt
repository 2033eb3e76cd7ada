-- What a thread has of the room.
use Rattle.std.specs.Prelude.{◌≡◌, Bool, true, false, []}
use Rattle.room_core.specs.declared.parts.Stage.{Stage}
use Rattle.room_table.specs.Seats.{SourceView, caller_now}
use Rattle.purgatory.specs.Going.{OwesNothing}
use Rattle.purgatory.specs.Rooms.{RoomView, PassView, IsOfRoom, IsSourceOf}

-- of this room, and nobody has used it
abbrev pub IsFreshSource : RoomView → SourceView → Type 0
IsFreshSource room source = IsSourceOf room source × (source.steps ≡ [])

abbrev pub IsFreshPass : RoomView → PassView → Type 0
IsFreshPass room pass = IsOfRoom room pass × (pass.seat.steps ≡ [])

-- whether its operation waits, or it has none
abbrev pub stage_if : Bool → Stage
stage_if true = Stage.Waiting
stage_if false = Stage.Idle

-- source and pass are of this room, which has 193 gauges, and the pass owes nothing and is at that stage
pub record IsSeat (room : RoomView) (source : SourceView) (pass : PassView) (waits : Bool) : Type 0 where
  pub gauges : room.table.shape.gauges ≡ 193
  pub source_made : IsSourceOf room source
  pub pass_made : IsOfRoom room pass
  pub paid : OwesNothing (caller_now pass.seat)
  pub stage : (caller_now pass.seat).stage ≡ stage_if waits
