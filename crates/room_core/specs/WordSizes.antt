-- Tables of a pass's words have a place for each pass: its session word, the 195 words of its description, and its 65 marks.
use Rattle.std.specs.Prelude.{◌≡◌, ℕ, Vec, All, length}
use Rattle.room_core.specs.Numbers.{description_words, marks_count}
use Rattle.std.specs.declared.alloc.Global.{Global}
use Rattle.room_core.specs.declared.shape.Shape.{Shape}
use Rattle.room_core.specs.declared.parts.Session.{Session}

pub record WordsAreSized (shape : Shape) (session : Vec Session Global) (description : Vec (Vec ℕ Global) Global) (marks : Vec (Vec ℕ Global) Global) : Type 0 where
  pub session_size : length session.items ≡ shape.passes
  pub description_size : length description.items ≡ shape.passes
  pub description_rows : All (λ row. length row.items ≡ description_words) description.items
  pub marks_size : length marks.items ≡ shape.passes
  pub marks_rows : All (λ row. length row.items ≡ marks_count) marks.items
