-- What an adapter over a reader or a writer is to contracts.
use Rattle.std.specs.Prelude.{ℕ}

pub record Counted (R : Type 0) : Type 0 where
  pub inner : R
  pub faults : ℕ
