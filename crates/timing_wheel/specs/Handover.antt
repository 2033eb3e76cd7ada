use Rattle.std.specs.Prelude.{◌≡◌, ℕ, ◌+◌, ◌==◌, List, Option, Some, None, map, length, count_by, slice_index_or, nat_le, if◌then◌else◌}
use Rattle.timing_wheel.specs.declared.timer.Timer.{Timer}
use Rattle.timing_wheel.specs.Timers.{listed}
use Rattle.timing_wheel.specs.Turn.{turned}
use Rattle.timing_wheel.specs.DueList.{DueList}

-- 1 for an entry that is due at t, and else 0
unfoldable pub owed : ℕ → Option Timer → ℕ
owed t None = 0
owed t (Some timer) = if nat_le timer.deadline t then 1 else 0

-- how often an id is handed out, and still to be handed out
abbrev pub handed : ℕ → List (Option Timer) → DueList → ℕ → ℕ
handed t slots due id = count_by (λ x. x == id) due.ids + owed t (slice_index_or slots id None)

-- a part of a turn to t: what the whole turn makes of the entries stays, and so does how often each id is handed out in the end,
-- and the number of entries with that of the ids handed out
pub record IsPartOfTurn (t : ℕ) (old new : List (Option Timer)) (due_old due_new : DueList) : Type 0 where
  pub turns : map (turned t) new ≡ map (turned t) old
  pub hands : (id : ℕ) → handed t new due_new id ≡ handed t old due_old id
  pub together : length due_new.ids + listed new ≡ length due_old.ids + listed old
  pub room : due_new.room ≡ due_old.room
