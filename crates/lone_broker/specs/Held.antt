-- What the one-thread broker holds, as a caller meets it.
use Rattle.std.specs.Prelude.{◌≡◌, Bool, false}
use Rattle.lone_broker.specs.Kept.{Kept, Stands}

pub record Held : Type 0 where
  pub kept : Kept
  -- memory ran out in the middle of a line
  pub is_poisoned : Bool

-- memory didn't run out, and what is kept represents a board of the definition
pub record IsSound (held : Held) : Type 0 where
  pub whole : held.is_poisoned ≡ false
  pub stands : Stands held.kept
