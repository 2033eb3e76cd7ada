-- Tables by gauge have a place for each gauge, those by pass one for each pass, and that by scanner 17; the room has a shape.
use Rattle.std.specs.Prelude.{◌≡◌, ℕ, Vec, All, length}
use Rattle.room_core.specs.Numbers.{scanner_numbers}
use Rattle.std.specs.declared.alloc.Global.{Global}
use Rattle.room_core.specs.declared.shape.Shape.{Shape}
use Rattle.room_core.specs.declared.parts.Source.{Source}
use Rattle.room_core.specs.declared.caller_part.CallerPart.{CallerPart}
use Rattle.room_core.specs.declared.scanner_part.ScannerPart.{ScannerPart}
use Rattle.room_core.specs.Gauges.{IsShape}

pub record AreSized (shape : Shape) (value asked begun : Vec ℕ Global) (source : Vec Source Global) (caller : Vec CallerPart Global) (scanner : Vec ScannerPart Global) : Type 0 where
  pub room : IsShape shape
  pub value_size : length value.items ≡ shape.gauges
  pub asked_size : length asked.items ≡ shape.gauges
  pub begun_size : length begun.items ≡ shape.gauges
  pub source_size : length source.items ≡ shape.gauges
  pub caller_size : length caller.items ≡ shape.passes
  pub caller_shape : All (λ c. c.shape ≡ shape) caller.items
  pub scanner_size : length scanner.items ≡ scanner_numbers
  pub scanner_shape : All (λ c. c.shape ≡ shape) scanner.items
