-- What the account of lines that workers played is to the lines.
use Rattle.std.specs.Prelude.{ℕ, ◌+◌, ◌≡◌, ◌≢◌, Bool, List, [], ◌∷◌, MatchBool, fold, length, max, ⊤}
use Rattle.std.specs.List.{AllByRecursion}
use Rattle.audit.specs.declared.account.Account.{Account}
use Rattle.audit.specs.declared.account.CallHow.TheVariants.{Parked}
use Rattle.audit.specs.Histories.{all_calls}
use Rattle.audit.specs.IsLawful.{IsLawful}
use Rattle.audit.specs.RunOf.{IsRunOf}
use Rattle.room_core.specs.Numbers.{scanner_numbers}
use Rattle.trace_file.specs.Contents.{rising_from}
use Rattle.trace_file.specs.declared.line.Line.{Line}
use Rattle.trace_workers.specs.declared.joined.TheConstants.{DRAIN_STEP}

-- the greatest moment of the lines, or 0
abbrev pub last_moment : List Line → ℕ
last_moment lines = fold max 0 (rising_from 0 lines)

-- each is a second after the one before it, and the first after this moment
abbrev pub AreSeconds : ℕ → List ℕ → Type 0
AreSeconds moment [] = ⊤
AreSeconds moment (t ∷ ts) = (t ≡ moment + DRAIN_STEP) × AreSeconds t ts

abbrev pub NobodyWaits : Account → Type 0
NobodyWaits account = AllByRecursion (λ call. call.how ≢ Parked) (all_calls account)

-- If the run is drained, the clock goes on by the second after the lines, and in the end nobody waits; else it stays.
abbrev pub IsDrained : Bool → List Line → List ℕ → Account → Type 0
IsDrained drain lines added account = MatchBool drain (AreSeconds (last_moment lines) added × NobodyWaits account) (added ≡ [])

-- The account is lawful, and that of a run of the lines. After the passes of the sessions comes that of the clock, which has no transcript. There is a
-- winner for each scanner, and one for each pass.
pub record IsWorkerRun (lines : List Line) (port : ℕ) (drain : Bool) (account : Account) : Type 0 where
  pub lawful : IsLawful account
  pub added : List ℕ
  pub run : IsRunOf lines port ([] ∷ []) added account
  pub drained : IsDrained drain lines added account
  pub winners : length account.wins ≡ scanner_numbers + length account.passes
