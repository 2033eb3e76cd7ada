-- What was read at a call's looks: for a produce the numbers of the logs, for a fetch what the reply takes of them.
use Rattle.std.specs.Prelude.{◌≡◌, ℕ, ℤ, List}
use Rattle.audit.specs.declared.account.Point.{Point}
use Rattle.kanswer.specs.declared.accepted.Accepted.{Accepted}
use Rattle.kanswer.specs.declared.accepted.Budget.{Budget}
use Rattle.kanswer.specs.declared.accepted.Reading.{Reading}
use Rattle.kanswer.specs.Answer.{budget_behind}
use Rattle.kanswer.specs.LogReadings.{FetchReadings, ProduceReadings}
use Rattle.kwire.specs.declared.request.FetchPart.{FetchPart}
use Rattle.partlog.specs.State.{PartState as State}
use Rattle.shared_logs.specs.Shared.{LogPassView}
use Rattle.shared_calls.specs.Looks.{HaveLooked}
use Rattle.shared_calls.specs.Seen.{seen_as}

-- the partitions of these results were looked at for a produce
pub record WereNumbered (seq : ℕ) (fresh : ℕ → State → Type 0) (old : LogPassView) (before : List Point) (accepted : List Accepted)
    (new : LogPassView) (after : List Point) (readings : List Reading) : Type 0 where
  pub states : List State
  pub looked : HaveLooked seq fresh old before accepted new after states
  pub read : ProduceReadings accepted readings (seen_as accepted states)

-- They were read for a fetch, which names them by these parts. The budget was handed on from one to the next.
pub record WereRead (seq : ℕ) (fresh : ℕ → State → Type 0) (replica : ℤ) (asked : List FetchPart) (old : LogPassView) (before : List Point)
    (accepted : List Accepted) (budget : Budget) (new : LogPassView) (after : List Point) (left : Budget) (readings : List Reading) : Type 0 where
  pub states : List State
  pub looked : HaveLooked seq fresh old before accepted new after states
  pub read : FetchReadings replica asked accepted readings (seen_as accepted states) budget
  pub left_is : left ≡ budget_behind replica asked (seen_as accepted states) budget
