-- Nothing is left to do: no source is loud, no caller owes, is Listing or is Checking, and no scanner has a duty.
use Rattle.std.specs.Prelude.{◌≡◌, ℕ, false}
use Rattle.room_core.specs.Duty.{IsOnDuty}
use Rattle.room_core.specs.Scans.{HasNoDuty}
use Rattle.room_core.specs.State.{State}

pub record IsQuiet (s : State) : Type 0 where
  pub sources : (gauge : ℕ) → (s.source gauge).loud ≡ false
  pub debts : (pass gauge : ℕ) → (s.caller pass).owed gauge ≡ 0
  pub owners : (pass : ℕ) → IsOnDuty (s.caller pass).stage → ⊥
  pub scanners : (k : ℕ) → HasNoDuty (s.scanner k)
