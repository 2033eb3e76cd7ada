-- A pass that looks whether its debt of a gauge was paid.
use Rattle.std.specs.Prelude.{ℕ}
use Rattle.room_table.specs.Seats.{CallerView, caller_now}
use Rattle.purgatory.specs.Going.{GoesOn, KeepsOperation, OwesElse}

pub record Pays (gauge : ℕ) (old new : CallerView) : Type 0 where
  pub went : GoesOn old new
  pub kept : KeepsOperation (caller_now old) (caller_now new)
  pub others : OwesElse gauge (caller_now old) (caller_now new)
