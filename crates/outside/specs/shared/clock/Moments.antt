-- The moments that were told, each once, the first one first.
use Rattle.std.specs.Prelude.{ℕ, List, [], ◌∷◌, cond, max, nat_lt}
use Rattle.outside.specs.declared.shared.clock.told_moment.ToldMoment.{ToldMoment}

-- the greatest of them, or 0
abbrev pub greatest : List ToldMoment → ℕ
greatest [] = 0
greatest (told ∷ more) = max told.moment (greatest more)

-- what a moment adds that a pass is told: itself, where it is above all that were told
abbrev pub entry_of : ℕ → ℕ → List ToldMoment → List ToldMoment
entry_of pass moment found = cond (nat_lt (greatest found) moment) (record { moment = moment; by = pass } ∷ []) []

-- the pass that an entry names
abbrev pub told_to : ToldMoment → ℕ
told_to told = told.by
