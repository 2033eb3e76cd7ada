-- How a room ended.
use Rattle.std.specs.Prelude.{◌≡◌, List}
use Rattle.purgatory.specs.declared.still.RoomEnd.{RoomEnd}
use Rattle.purgatory.specs.Ends.{IsStill, IsUntaken}
use Rattle.purgatory.specs.Rooms.{PassView, RoomView}

-- It is still, or handed back as it was.
abbrev pub HasEnded : RoomView → List PassView → RoomEnd → Type 0
HasEnded room passes (RoomEnd.Still still) = IsStill room passes still
HasEnded room passes (RoomEnd.Untaken again back) = (again ≡ room) × (back ≡ passes) × IsUntaken room passes
