-- What a pass keeps beside its seat.
use Rattle.std.specs.Prelude.{◌≡◌, ℕ, ◌+◌, ◌<◌, ◌≤◌, List, length, slice_index}
use Rattle.room_core.specs.declared.parts.Stage.{Stage}
use Rattle.room_core.specs.Gauges.{IsPass}
use Rattle.room_core.specs.State.{Caller}
use Rattle.room_core.specs.Numbers.{most_gauges}
use Rattle.room_table.specs.Seats.{CallerView, caller_now}

-- 1 while it has an operation whose end it hasn't taken
abbrev pub untaken : Stage → ℕ
untaken Stage.Idle = 0
untaken Stage.Listing = 1
untaken Stage.Checking = 1
untaken Stage.Waiting = 1
untaken (Stage.Over how by) = 1

-- 1 while it may come to win its operation itself
abbrev pub unsettled : Stage → ℕ
unsettled Stage.Idle = 0
unsettled Stage.Listing = 1
unsettled Stage.Checking = 1
unsettled Stage.Waiting = 0
unsettled (Stage.Over how by) = 0

-- how many it won, each generation at most once, and how many it has taken: all but the one that it has
pub record IsCounted (wins taken : ℕ) (caller : Caller) : Type 0 where
  pub wins_are : wins ≡ length caller.wins
  pub taken_are : taken ≡ length caller.taken
  pub few_wins : wins + unsettled caller.stage ≤ caller.generation
  pub all_taken : taken + untaken caller.stage ≡ caller.generation

-- its number, the generation of its operation, how many it won and took, and by gauge what it owes
pub record IsOwner (number generation wins taken : ℕ) (owed : List ℕ) (seat : CallerView) : Type 0 where
  pub number_is : number ≡ seat.pass
  pub there : IsPass seat.table.shape seat.pass
  pub generation_is : generation ≡ (caller_now seat).generation
  pub counts : IsCounted wins taken (caller_now seat)
  pub few : seat.table.shape.gauges ≤ most_gauges
  pub size : length owed ≡ seat.table.shape.gauges
  pub owes : (gauge : ℕ) → slice_index owed gauge ≡ (caller_now seat).owed gauge
