-- What a sink in memory is to contracts.
use Rattle.std.specs.Prelude.{◌≤◌, ◌<◌, ◌⊎◌, IsTrue, ℕ, List, length}
use Rattle.outside.specs.Plan.{Plan, is_due}

-- the bytes that were written, the number for which there is room in all, and the plan of its faults
pub record Store : Type 0 where
  pub written : List ℕ
  pub room : ℕ
  pub plan : Plan

-- a write of this part is to fail: by the plan, or since the room is full
abbrev pub IsRefused : Store → List ℕ → Type 0
IsRefused store part = IsTrue (is_due store.plan) ⊎ ((0 < length part) × (store.room ≤ length store.written))
