-- How shared logs ended.
use Rattle.std.specs.Prelude.{◌≡◌, List, map, ⊤}
use Rattle.purgatory.specs.Ends.{IsUntaken}
use Rattle.shared_logs.specs.declared.closing.LogsEnd.{LogsEnd}
use Rattle.shared_logs.specs.Closing.{AreClosed, in_room}
use Rattle.shared_logs.specs.Shared.{LogPassView, SharedView}

abbrev pub HasEnded : SharedView → List LogPassView → LogsEnd → Type 0
HasEnded shared passes (LogsEnd.Closed closed) = AreClosed shared passes closed.parts closed.clock closed.wins
HasEnded shared passes (LogsEnd.Untaken logs back) = (logs ≡ shared) × (back ≡ passes) × IsUntaken shared.room (map in_room passes)
HasEnded shared passes LogsEnd.NoMemory = ⊤
