-- The items of a list that keeps its item in place while it has but one.
use Rattle.std.specs.Prelude.{List, Option, Some, None}

-- the one in place, or else those that have memory of their own
abbrev pub few_items : {T : Type 0} → Option (List T) → List T → List T
few_items None more = more
few_items (Some one) more = one
