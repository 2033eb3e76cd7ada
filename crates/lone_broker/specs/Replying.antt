-- From what a reply is computed: what became of each named partition, and its log as it is. A request names a partition once,
-- so after its whole acceptance each log shows the state just after the request's own entry.
use Rattle.std.specs.Prelude.{ℕ, ◌≡◌, ◌<◌, List, ⊤}
use Rattle.std.specs.List.{AllByRecursion}
use Rattle.partlog.specs.History.{History}
use Rattle.partlog.specs.State.{state_of}
use Rattle.kanswer.specs.declared.accepted.Accepted.{Accepted}
use Rattle.kanswer.specs.declared.accepted.Accepted.TheVariants.{Refused, Appended, Seen}
use Rattle.audit.specs.broker.Board.{history_at}
use Rattle.kanswer.specs.ByPart.{IsByPart}
use Rattle.kanswer.specs.Waiting.{Shown, results_of}

-- a partition whose log was asked is shown as its log is
abbrev pub ShowsLog : List History → Shown → Type 0
ShowsLog parts s = IsByPart (λ part. state_of (history_at parts part)) s.result s.state

-- with `count` logs, the partition whose log was asked has one
abbrev pub HasLog : ℕ → Accepted → Type 0
HasLog count (Refused code) = ⊤
HasLog count (Appended part base n) = part < count
HasLog count (Seen part start) = part < count

pub record ShowsLogs (parts : List History) (accepted : List Accepted) (shown : List Shown) : Type 0 where
  pub results : results_of shown ≡ accepted
  pub states : AllByRecursion (ShowsLog parts) shown
