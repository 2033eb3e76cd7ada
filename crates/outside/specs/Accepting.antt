-- What an accept answers, and what it does to the number of links given and to whether their end was told.
use Rattle.std.specs.Prelude.{◌≡◌, ℕ, Bool, true, false, Option, Some, None, Result, Ok, Err}
use Rattle.outside.specs.Count.{one_more}

-- A link counts as one more, and comes only where no `None` came before. `None` tells the end. A failure changes neither.
abbrev pub Accepts : {L E : Type 0} → ℕ → ℕ → Bool → Bool → Result (Option L) E → Type 0
Accepts given given' ended ended' (Ok (Some link)) = (given' ≡ one_more given) × (ended ≡ false) × (ended' ≡ false)
Accepts given given' ended ended' (Ok None) = (given' ≡ given) × (ended' ≡ true)
Accepts given given' ended ended' (Err e) = (given' ≡ given) × (ended' ≡ ended)
