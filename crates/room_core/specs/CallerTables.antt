-- The part that a caller's tables show.
use Rattle.std.specs.Prelude.{ℕ, List, Option, Some, None, false, slice_index_or}
use Rattle.room_core.specs.declared.caller_part.CallerPart.{CallerPart}
use Rattle.room_core.specs.State.{Caller}
use Rattle.room_core.specs.Start.{idle_caller}

-- a list as a table, with a value past its end
abbrev pub table : {A : Type 0} → List A → A → ℕ → A
table xs none i = slice_index_or xs i none

abbrev pub caller_of : CallerPart → Caller
caller_of c = record {
  generation = c.generation;
  description = table c.description.items 0;
  stage = c.stage;
  seen = table c.seen.items false;
  readings = table c.readings.items None;
  greatest = table c.greatest.items 0;
  owed = table c.owed.items 0;
  wins = c.wins.items;
  taken = c.taken.items;
}

abbrev pub caller_at : Option CallerPart → Caller
caller_at None = idle_caller
caller_at (Some c) = caller_of c
