-- What is read of the named partitions as their logs are: of one that was appended its numbers, of one that is seen its numbers and
-- the batches that the reply takes of it, of the others nothing.
use Rattle.std.specs.Prelude.{ℤ, List, [], ◌∷◌, map}
use Rattle.partlog.specs.History.{History}
use Rattle.partlog.specs.State.{PartState as State, state_of}
use Rattle.partlog.specs.Gauges.{numbers_of}
use Rattle.partlog.specs.declared.numbers.Numbers.{Numbers}
use Rattle.partlog.specs.Taken.{joined}
use Rattle.kwire.specs.declared.request.FetchPart.{FetchPart}
use Rattle.kanswer.specs.declared.accepted.Accepted.{Accepted}
use Rattle.kanswer.specs.declared.accepted.Accepted.TheVariants.{Refused, Appended, Seen}
use Rattle.kanswer.specs.declared.accepted.Reading.{Reading}
use Rattle.kanswer.specs.declared.accepted.Budget.{Budget}
use Rattle.audit.specs.broker.Board.{history_at, empty_history}
use Rattle.kanswer.specs.Waiting.{Shown}
use Rattle.kanswer.specs.Answer.{read_of, budget_after}

abbrev pub nothing_read : Reading
nothing_read = record { numbers = record { end = 0; high = 0; visible = 0; bytes = 0; insync = 0 }; records = [] }

abbrev pub state_now : List History → Accepted → State
state_now parts (Refused code) = state_of (empty_history 0)
state_now parts (Appended part base count) = state_of (history_at parts part)
state_now parts (Seen part start) = state_of (history_at parts part)

abbrev pub shown_in_logs : List History → List Accepted → List Shown
shown_in_logs parts accepted = map (λ became. record { result = became; state = state_now parts became }) accepted

abbrev pub part_numbers : List History → Accepted → Numbers
part_numbers parts (Refused code) = nothing_read.numbers
part_numbers parts (Appended part base count) = numbers_of (state_of (history_at parts part))
part_numbers parts (Seen part start) = numbers_of (state_of (history_at parts part))

-- the numbers of each partition's log
abbrev pub numbers_in : List History → List Accepted → List Numbers
numbers_in parts accepted = map (part_numbers parts) accepted

-- for a produce
abbrev pub numbers_now : List History → Accepted → Reading
numbers_now parts (Refused code) = nothing_read
numbers_now parts (Appended part base count) = record { numbers = numbers_of (state_of (history_at parts part)); records = [] }
numbers_now parts (Seen part start) = nothing_read

-- for a fetch
abbrev pub reading_now : List History → ℤ → FetchPart → Accepted → Budget → Reading
reading_now parts replica asked (Refused code) budget = nothing_read
reading_now parts replica asked (Appended part base count) budget = nothing_read
reading_now parts replica asked (Seen part start) budget = record {
  numbers = numbers_of (state_of (history_at parts part));
  records = joined (read_of replica asked start (state_of (history_at parts part)) budget);
}

-- what is left after it
abbrev pub left_now : List History → ℤ → FetchPart → Accepted → Budget → Budget
left_now parts replica asked (Refused code) budget = budget
left_now parts replica asked (Appended part base count) budget = budget
left_now parts replica asked (Seen part start) budget =
    budget_after (read_of replica asked start (state_of (history_at parts part)) budget) budget

-- one partition after the other
abbrev pub readings_now : List History → ℤ → List FetchPart → List Accepted → Budget → List Reading
readings_now parts replica [] accepted budget = []
readings_now parts replica (asked ∷ more) [] budget = []
readings_now parts replica (asked ∷ more) (became ∷ accepted) budget =
    reading_now parts replica asked became budget
    ∷ readings_now parts replica more accepted (left_now parts replica asked became budget)

abbrev pub left_behind : List History → ℤ → List FetchPart → List Accepted → Budget → Budget
left_behind parts replica [] accepted budget = budget
left_behind parts replica (asked ∷ more) [] budget = budget
left_behind parts replica (asked ∷ more) (became ∷ accepted) budget =
    left_behind parts replica more accepted (left_now parts replica asked became budget)
