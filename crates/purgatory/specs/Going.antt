-- A pass that goes on: its steps are those before and newer ones.
use Rattle.std.specs.Prelude.{◌≡◌, ◌≢◌, ◌⊎◌, ℕ, List, ◌++◌}
use Rattle.room_core.specs.declared.parts.Stage.{Stage}
use Rattle.room_core.specs.State.{Caller}
use Rattle.room_table.specs.declared.part.CallerStep.{CallerStep}
use Rattle.room_table.specs.Seats.{CallerView}

pub record GoesOn (old new : CallerView) : Type 0 where
  pub table : new.table ≡ old.table
  pub pass : new.pass ≡ old.pass
  pub newer : List CallerStep
  pub steps : new.steps ≡ newer ++ old.steps

-- between any two calls a pass has no operation, or one that waits
abbrev pub IsAtRest : Stage → Type 0
IsAtRest stage = (stage ≡ Stage.Idle) ⊎ (stage ≡ Stage.Waiting)

-- its operation is as it was, and so is what it won and what it took
pub record KeepsOperation (old new : Caller) : Type 0 where
  pub generation : new.generation ≡ old.generation
  pub description : new.description ≡ old.description
  pub stage : new.stage ≡ old.stage
  pub wins : new.wins ≡ old.wins
  pub taken : new.taken ≡ old.taken

-- the pass owes no scan of any gauge
abbrev pub OwesNothing : Caller → Type 0
OwesNothing caller = (gauge : ℕ) → caller.owed gauge ≡ 0

-- of the other gauges it owes what it owed
abbrev pub OwesElse : ℕ → Caller → Caller → Type 0
OwesElse gauge old new = (other : ℕ) → other ≢ gauge → new.owed other ≡ old.owed other
