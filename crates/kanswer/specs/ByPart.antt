-- What is shown of the partitions whose logs were asked are the states that these have by their numbers.
use Rattle.std.specs.Prelude.{◌≡◌, ℕ, List, ⊤}
use Rattle.std.specs.List.{AllByRecursion}
use Rattle.partlog.specs.State.{PartState as State}
use Rattle.kanswer.specs.declared.accepted.Accepted.{Accepted}
use Rattle.kanswer.specs.declared.accepted.Accepted.TheVariants.{Refused, Appended, Seen}
use Rattle.kanswer.specs.Waiting.{Shown}

abbrev pub IsByPart : (ℕ → State) → Accepted → State → Type 0
IsByPart states (Refused code) state = ⊤
IsByPart states (Appended part base count) state = state ≡ states part
IsByPart states (Seen part start) state = state ≡ states part

abbrev pub AreByPart : (ℕ → State) → List Shown → Type 0
AreByPart states shown = AllByRecursion (λ s. IsByPart states s.result s.state) shown
