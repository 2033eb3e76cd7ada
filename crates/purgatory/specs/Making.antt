-- The seats with which a room is made.
use Rattle.std.specs.Prelude.{◌≡◌, ℕ, ◌+◌, ◌<◌, ◌≤◌, List, [], ◌∷◌, map, ⊤}
use Rattle.room_core.specs.declared.shape.Shape.{Shape}
use Rattle.room_core.specs.Gauges.{IsGauge, IsPass, IsShape}
use Rattle.room_core.specs.Numbers.{most_gauges, scanner_numbers}
use Rattle.room_table.specs.Seats.{CallerView, ScanView, SourceView, source_now}
use Rattle.purgatory.specs.scans.Desks.{desk_name}

-- the items are such, with the numbers from the first one on
abbrev pub AreFrom : {A : Type 0} → (ℕ → A → Type 0) → ℕ → List A → Type 0
AreFrom P first [] = ⊤
AreFrom P first (x ∷ xs) = P first x × AreFrom P (first + 1) xs

-- seats of these numbers, that have made no step
pub record IsFreshSource (gauge : ℕ) (seat : SourceView) : Type 0 where
  pub number : seat.gauge ≡ gauge
  pub there : IsGauge seat.table.shape gauge
  pub few : seat.table.shape.gauges ≤ most_gauges
  pub stored : (source_now seat).stored ≡ 0
  pub fresh : seat.steps ≡ []

pub record IsFreshCaller (shape : Shape) (pass : ℕ) (seat : CallerView) : Type 0 where
  pub number : seat.pass ≡ pass
  pub shape_is : shape ≡ seat.table.shape
  pub is_shape : IsShape shape
  pub there : IsPass shape pass
  pub fresh : seat.steps ≡ []

pub record IsFreshScanner (shape : Shape) (k : ℕ) (seat : ScanView) : Type 0 where
  pub number : seat.scanner ≡ k
  pub shape_is : shape ≡ seat.table.shape
  pub few : k < scanner_numbers
  pub fresh : seat.steps ≡ []

-- the names of the scanners' desks
abbrev pub names_of : List ScanView → List (List ℕ)
names_of seats = map (λ (seat : ScanView). desk_name seat.table seat.scanner) seats
