-- A delayed operation: what it needs of the gauges, and its deadline in milliseconds.
use Rattle.std.specs.Prelude.{ℕ, ◌^◌, ◌<◌, ◌≤◌, ◌≢◌, List, All, AllPairs, length}
use Rattle.opcond.specs.declared.need.Need.{Need}

pub record Operation : Type 0 where
  pub needs : List Need
  -- the least tally that satisfies it
  pub least : ℕ
  pub deadline : ℕ

-- the gauges are distinct, there are at most 64 needs, and the caps and the least tally are below 2^31
pub record IsValid (op : Operation) : Type 0 where
  pub few : length op.needs ≤ 64
  pub distinct : AllPairs (λ a b. a.gauge ≢ b.gauge) op.needs
  pub caps : All (λ need. need.cap < 2 ^ 31) op.needs
  pub least : op.least < 2 ^ 31
