-- How a run ends whose lanes are done.
use Rattle.std.specs.Prelude.{ℕ, ◌≡◌, ◌↔◌, ◌⊎◌, Bool, true, Option, Some, None}
use Rattle.audit.specs.declared.account.Account.{Account}

-- by whether the port failed, and the account of the run: the code, and the account that is answered, unless memory ran out
abbrev pub IsFinish : Bool → Account → ℕ → Option Account → Type 0
IsFinish failed ran code None = code ≡ 6
IsFinish failed ran code (Some account) = (account ≡ ran) × ((code ≡ 0) ⊎ (code ≡ 4) ⊎ (code ≡ 5)) × ((code ≡ 5) ↔ (failed ≡ true))
