-- A link as it was accepted: nothing was taken from it or written to it, it counts no fault and isn't shut.
use Rattle.std.specs.Prelude.{◌≡◌, ℕ, List, Bool, false, Option}
use Rattle.outside.specs.Told.{IsBare}

pub record IsNewLink (taken written : Option (List ℕ)) (faults : ℕ) (is_shut : Bool) : Type 0 where
  pub untaken : IsBare taken
  pub unwritten : IsBare written
  pub faultless : faults ≡ 0
  pub open_still : is_shut ≡ false
