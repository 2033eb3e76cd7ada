use Rattle.std.specs.Prelude.{ℕ, List}

-- due ids, and how many there is room for
pub record DueList : Type 0 where
  pub ids : List ℕ
  pub room : ℕ
