-- Followers that lagged at a moment were taken out of a partition's in-sync set by a pass, the first of them or all.
use Rattle.std.specs.Prelude.{◌≡◌, ℕ}
use Rattle.partlog.specs.History.{History}
use Rattle.partlog.specs.Shrunk.{some_shrunk}

pub record HasShrunkSome (by t : ℕ) (before after : History) : Type 0 where
  pub count : ℕ
  pub history : after ≡ some_shrunk count before by t
