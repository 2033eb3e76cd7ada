-- What a clause sees of the desks, and their names.
use Rattle.std.specs.Prelude.{ℕ, List, ◌∷◌}
use Rattle.atomic_table.specs.Seated.{TableId}
use Rattle.room_core.specs.declared.shape.Shape.{Shape}
use Rattle.room_table.specs.Seats.{TableView, ScanView}
use Rattle.timing_wheel.specs.Timers.{Timers}
use Rattle.watch_lists.specs.Watches.{Watches}

-- a shard's scanner, and the watchers of its gauges: the key of a gauge is a sixteenth of its number
pub record ShardView : Type 0 where
  pub seat : ScanView
  pub watches : Watches

-- the clock's scanner, and the timers of its entries: the id of a timer is the pass
pub record ClockView : Type 0 where
  pub seat : ScanView
  pub timers : Timers

abbrev pub shape_numbers : Shape → List ℕ → List ℕ
shape_numbers shape rest = shape.gauges ∷ shape.passes ∷ shape.scanners ∷ rest

abbrev pub id_numbers : TableId → List ℕ
id_numbers id = id.words ∷ id.slots ∷ id.views_name ∷ id.atom ∷ id.block ∷ id.offset ∷ id.slot_names

-- the name of a desk: its scanner's number and the room's table, as numbers
abbrev pub desk_name : TableView → ℕ → List ℕ
desk_name table scanner = scanner ∷ shape_numbers table.shape (id_numbers table.id)
