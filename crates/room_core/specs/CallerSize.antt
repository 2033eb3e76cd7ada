-- A caller's tables by gauge have a place for each gauge.
use Rattle.std.specs.Prelude.{◌≡◌, ℕ, Vec, length}
use Rattle.std.specs.declared.alloc.Global.{Global}
use Rattle.room_core.specs.declared.shape.Shape.{Shape}

pub record CallerIsSized (shape : Shape) (greatest owed : Vec ℕ Global) : Type 0 where
  pub greatest_size : length greatest.items ≡ shape.gauges
  pub owed_size : length owed.items ≡ shape.gauges
