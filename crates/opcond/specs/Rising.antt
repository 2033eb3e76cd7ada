-- Values that rose: one for each need, none of them lower.
use Rattle.std.specs.Prelude.{◌≡◌, ℕ, ◌≤◌, List, length, slice_index}

pub record HaveRisen (before after : List ℕ) : Type 0 where
  pub same : length before ≡ length after
  pub higher : (i : ℕ) → slice_index before i ≤ slice_index after i
