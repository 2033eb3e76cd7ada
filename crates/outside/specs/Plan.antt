-- The calls of an object in memory that are to fail, by their numbers, which count from 0.
use Rattle.std.specs.Prelude.{ℕ, ◌==◌, Bool, List}
use Rattle.std.specs.List.{list_any}
use Rattle.outside.specs.Count.{one_more}

-- the numbers of the calls that are to fail, how many calls were made, and how many faults were counted
pub record Plan : Type 0 where
  pub fails : List ℕ
  pub calls : ℕ
  pub faults : ℕ

-- before any call
abbrev pub planned : List ℕ → Plan
planned fails = record { fails = fails; calls = 0; faults = 0 }

-- the next call is to fail
abbrev pub is_due : Plan → Bool
is_due plan = list_any (λ number. number == plan.calls) plan.fails

-- after a call that didn't fail
abbrev pub called : Plan → Plan
called plan = record plan { calls = one_more plan.calls }

-- after a call that failed
abbrev pub faulted : Plan → Plan
faulted plan = record plan { calls = one_more plan.calls; faults = one_more plan.faults }
