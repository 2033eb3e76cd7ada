-- A pass of a shared clock, by its pass of the lock.
use Rattle.std.specs.Prelude.{◌≡◌, ◌≤◌, ℕ, ◌+◌, List, [], ◌∷◌, ⊤}
use Rattle.atomic_table.specs.Seated.{TableId}
use Rattle.turn_lock.specs.declared.pass.TurnPass.{TurnPass}
use Rattle.turn_lock.specs.Locks.{IsReady, known}
use Rattle.turn_lock.specs.Passes.{fresh}
use Rattle.outside.specs.declared.shared.clock.told_moment.ToldMoment.{ToldMoment}
use Rattle.outside.specs.shared.clock.ClockViews.{PassView}
use Rattle.outside.specs.shared.clock.Desk.{Desk}
use Rattle.outside.specs.shared.clock.Moments.{greatest}

module _ {C : Type 0} where
  abbrev pub pass_view : ℕ → TurnPass (Desk C) ToldMoment → ℕ → PassView
  pass_view number key told = record { made = key.seat.table_id; number = number; told = told; seen = (known key).seen; own = (known key).mine }

  -- the key has this number and no turn out, and the moment that was told is no greater than those seen
  pub record IsClockPass (number : ℕ) (key : TurnPass (Desk C) ToldMoment) (told : ℕ) : Type 0 where
    pub ready : IsReady key
    pub number_is : (known key).number ≡ number
    pub name_is : (known key).name ≡ []
    pub told_is : told ≤ greatest (known key).seen

  -- the keys of a new lock, with the numbers from the first one on
  abbrev pub AreFreshFrom : TableId → ℕ → List (TurnPass (Desk C) ToldMoment) → Type 0
  AreFreshFrom id first [] = ⊤
  AreFreshFrom id first (key ∷ keys) = (key.seat.table_id ≡ id) × (key.seat.me ≡ (fresh [] first ∷ [], [])) × AreFreshFrom id (first + 1) keys

  -- it is the key of a pass that is seen so
  pub record IsKeyOf (pass : PassView) (key : TurnPass (Desk C) ToldMoment) : Type 0 where
    pub number : ℕ
    pub told : ℕ
    pub pass_is : pass ≡ pass_view number key told
    pub keeps : IsClockPass number key told

  -- they are those of the passes, in their order
  abbrev pub AreKeysOf : List PassView → List (TurnPass (Desk C) ToldMoment) → Type 0
  AreKeysOf [] [] = ⊤
  AreKeysOf [] (key ∷ keys) = ⊥
  AreKeysOf (pass ∷ passes) [] = ⊥
  AreKeysOf (pass ∷ passes) (key ∷ keys) = IsKeyOf pass key × AreKeysOf passes keys
