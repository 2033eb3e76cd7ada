-- How many of a winner's exchanges stand among what the passes have taken, and how many in their words.
use Rattle.std.specs.Prelude.{ℕ, zero, suc, ◌+◌, Bool, false, ◌==◌, if◌then◌else◌, count_by}
use Rattle.room_core.specs.declared.parts.Phase.{Phase}
use Rattle.room_core.specs.declared.parts.Phase.TheVariants.{Open, Won}
use Rattle.room_core.specs.State.{State}

-- the sum of the first n
unfoldable pub sum_below : (ℕ → ℕ) → ℕ → ℕ
sum_below f zero = 0
sum_below f (suc n) = sum_below f n + f n

abbrev pub is_won_by : Phase → ℕ → Bool
is_won_by (Won how winner) by = winner == by
is_won_by Phase.Idle by = false
is_won_by Open by = false

-- the items taken that name the winner
abbrev pub taken_by : State → ℕ → ℕ
taken_by s by = sum_below (λ pass. count_by (λ item. item.by == by) (s.caller pass).taken) s.shape.passes

-- the words that it has won
abbrev pub won_by : State → ℕ → ℕ
won_by s by = sum_below (λ pass. if is_won_by (s.session pass).phase by then 1 else 0) s.shape.passes
