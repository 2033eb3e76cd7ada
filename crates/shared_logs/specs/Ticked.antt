-- The clock's desk was told a moment by a pass.
use Rattle.std.specs.Prelude.{◌≡◌, ◌↔◌, ℕ, ◌<◌, Bool, false, [], ◌∷◌, ◌++◌, IsTrue, if◌then◌else◌}
use Rattle.partlog.specs.Moment.{moment_of}
use Rattle.partlog.specs.Ticked.{ticked}
use Rattle.shared_logs.specs.Desks.{MomentView}

-- the moment rose exactly where this one was above it; then there is a tick more, which the pass added, and else nothing changed
pub record HasTicked (by t : ℕ) (rose : Bool) (before after : MomentView) : Type 0 where
  pub rose_is : IsTrue rose ↔ (moment_of before.events < t)
  pub events : after.events ≡ ticked before.events t
  pub tickers : after.tickers ≡ (if rose then before.tickers ++ by ∷ [] else before.tickers)
  pub still : rose ≡ false → after ≡ before
