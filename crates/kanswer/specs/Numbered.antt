-- Numbers that were read of the named partitions: one item for each, in the order of the request over all topics. Of a
-- partition whose log was asked they are those of the state that is shown, and of a refused one they may be any.
use Rattle.std.specs.Prelude.{◌≡◌, List, ⊤}
use Rattle.std.specs.List.{AllZip}
use Rattle.partlog.specs.State.{PartState as State}
use Rattle.partlog.specs.Gauges.{numbers_of}
use Rattle.partlog.specs.declared.numbers.Numbers.{Numbers}
use Rattle.kanswer.specs.declared.accepted.Accepted.{Accepted}
use Rattle.kanswer.specs.declared.accepted.Accepted.TheVariants.{Refused, Appended, Seen}
use Rattle.kanswer.specs.Waiting.{Shown}

abbrev pub IsNumbered : Numbers → Accepted → State → Type 0
IsNumbered numbers (Refused code) state = ⊤
IsNumbered numbers (Appended part base count) state = numbers ≡ numbers_of state
IsNumbered numbers (Seen part start) state = numbers ≡ numbers_of state

abbrev pub AreNumbers : List Numbers → List Shown → Type 0
AreNumbers numbers shown = AllZip (λ n s. IsNumbered n s.result s.state) numbers shown
