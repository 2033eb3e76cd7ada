-- A caller's tables of its operation have a place for each of the 195 words, of the 65 marks, and of the gauges.
use Rattle.std.specs.Prelude.{◌≡◌, ℕ, Bool, Option, Vec, length}
use Rattle.room_core.specs.Numbers.{description_words, marks_count}
use Rattle.std.specs.declared.alloc.Global.{Global}
use Rattle.room_core.specs.declared.shape.Shape.{Shape}

pub record CallerIsWhole (shape : Shape) (description : Vec ℕ Global) (seen : Vec Bool Global) (readings : Vec (Option ℕ) Global) : Type 0 where
  pub description_size : length description.items ≡ description_words
  pub seen_size : length seen.items ≡ marks_count
  pub readings_size : length readings.items ≡ shape.gauges
