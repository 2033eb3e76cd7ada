-- A pass that goes on: others added to the histories, and it may have made calls and ticked.
use Rattle.std.specs.Prelude.{◌≡◌, ◌≤◌, ℕ, fold, max}
use Rattle.audit.specs.broker.GoesOn.{HaveGrown}
use Rattle.shared_broker.specs.Passes.{PassView, made_with}

-- the greatest moment that it ticked, or 0
abbrev pub latest : PassView → ℕ
latest pass = fold max 0 pass.logs.ticked

-- the same pass, which has seen more of the histories, and ticked nothing past this moment that it hadn't ticked before
pub record HasGoneOn (told : ℕ) (old new : PassView) : Type 0 where
  pub number : new.logs.number ≡ old.logs.number
  pub made : made_with new ≡ made_with old
  pub grown : HaveGrown old.logs.parts old.logs.clock new.logs.parts new.logs.clock
  pub ticked : latest new ≤ max (latest old) told
