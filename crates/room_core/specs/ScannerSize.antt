-- A scanner's tables by gauge have a place for each gauge, those by pass one for each pass, and that of a description's words
-- one for each of 195. A listing has a row for each gauge, with a place for each pass.
use Rattle.std.specs.Prelude.{◌≡◌, ℕ, Vec, Option, All, length}
use Rattle.room_core.specs.Numbers.{description_words}
use Rattle.std.specs.declared.alloc.Global.{Global}
use Rattle.room_core.specs.declared.shape.Shape.{Shape}
use Rattle.room_core.specs.declared.parts.Entry.{Entry}
use Rattle.room_core.specs.declared.parts.Duty.{Duty}

pub record ScannerIsSized (shape : Shape) (began : Vec ℕ Global) (listing : Vec (Vec (Option Entry) Global) Global) (duties : Vec (Option Duty) Global) (learned readings : Vec (Option ℕ) Global) : Type 0 where
  pub began_size : length began.items ≡ shape.gauges
  pub listing_size : length listing.items ≡ shape.gauges
  pub listing_rows : All (λ row. length row.items ≡ shape.passes) listing.items
  pub duties_size : length duties.items ≡ shape.passes
  pub learned_size : length learned.items ≡ description_words
  pub readings_size : length readings.items ≡ shape.gauges
