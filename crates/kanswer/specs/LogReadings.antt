-- What was read of the named partitions for a reply: one reading for each, in the order of the request over all topics.
use Rattle.std.specs.Prelude.{ℕ, ◌+◌, ◌≡◌, ◌<◌, ◌^◌, ℤ, false, List, [], ◌∷◌, length, sum_by, ⊤}
use Rattle.partlog.specs.State.{PartState as State}
use Rattle.partlog.specs.Gauges.{numbers_of}
use Rattle.partlog.specs.Taken.{joined}
use Rattle.kwire.specs.declared.request.Ask.{Ask}
use Rattle.kwire.specs.declared.request.Ask.TheVariants.{Produce, Fetch, Metadata, Versions}
use Rattle.kwire.specs.declared.request.FetchPart.{FetchPart}
use Rattle.kanswer.specs.declared.accepted.Accepted.{Accepted}
use Rattle.kanswer.specs.declared.accepted.Accepted.TheVariants.{Refused, Appended, Seen}
use Rattle.kanswer.specs.declared.accepted.Reading.{Reading}
use Rattle.kanswer.specs.declared.accepted.Budget.{Budget}
use Rattle.kanswer.specs.Waiting.{Shown}
use Rattle.kanswer.specs.Answer.{first_budget, asked_parts, batches_as, budget_after}

-- what a reply may take of its first partition
abbrev pub budget_of : Ask → Budget
budget_of (Produce version transactional acks timeout topics) = record { left = 0; any = false }
budget_of (Fetch version replica max_wait min_bytes max_bytes isolation topics) = first_budget max_bytes
budget_of (Metadata topics) = record { left = 0; any = false }
budget_of (Versions version) = record { left = 0; any = false }

-- how many partitions are named
abbrev pub named_count : Ask → ℕ
named_count (Produce version transactional acks timeout topics) = sum_by (λ topic. length topic.parts) topics
named_count (Fetch version replica max_wait min_bytes max_bytes isolation topics) = sum_by (λ topic. length topic.parts) topics
named_count (Metadata topics) = 0
named_count (Versions version) = 0

-- of an appended partition the numbers were read
abbrev pub HasNumbers : Accepted → Reading → State → Type 0
HasNumbers (Refused code) reading state = ⊤
HasNumbers (Appended part base count) reading state = reading.numbers ≡ numbers_of state
HasNumbers (Seen part start) reading state = ⊤

abbrev pub ProduceReadings : List Accepted → List Reading → List Shown → Type 0
ProduceReadings [] [] [] = ⊤
ProduceReadings (result ∷ results) (reading ∷ readings) (s ∷ shown) =
    (s.result ≡ result) × HasNumbers result reading s.state × ProduceReadings results readings shown
ProduceReadings _ _ _ = ⊥

-- of a partition that is seen the numbers were read, and the batches that the reply takes of it
abbrev pub HasRecords : ℤ → FetchPart → Accepted → Reading → State → Budget → Type 0
HasRecords replica asked (Refused code) reading state budget = ⊤
HasRecords replica asked (Appended part base count) reading state budget = ⊤
HasRecords replica asked (Seen part start) reading state budget =
    (reading.numbers ≡ numbers_of state) × (reading.records ≡ joined (batches_as replica asked (Seen part start) state budget))

-- what is left to the reply is handed on
abbrev pub FetchReadings : ℤ → List FetchPart → List Accepted → List Reading → List Shown → Budget → Type 0
FetchReadings replica [] [] [] [] budget = ⊤
FetchReadings replica (asked ∷ parts) (result ∷ results) (reading ∷ readings) (s ∷ shown) budget =
    (s.result ≡ result) × HasRecords replica asked result reading s.state budget
    × FetchReadings replica parts results readings shown (budget_after (batches_as replica asked s.result s.state budget) budget)
FetchReadings replica _ _ _ _ budget = ⊥

abbrev pub AreReadings : Ask → List Accepted → List Reading → List Shown → Type 0
AreReadings (Produce version transactional acks timeout topics) results readings shown = ProduceReadings results readings shown
AreReadings (Fetch version replica max_wait min_bytes max_bytes isolation topics) results readings shown =
    FetchReadings replica (asked_parts topics) results readings shown (first_budget max_bytes)
AreReadings (Metadata topics) results readings shown = shown ≡ []
AreReadings (Versions version) results readings shown = shown ≡ []

-- offsets that the wire can carry
abbrev pub IsCarriable : Accepted → Type 0
IsCarriable (Refused code) = ⊤
IsCarriable (Appended part base count) = base + count < 2 ^ 63
IsCarriable (Seen part start) = ⊤

abbrev pub HasCarriable : Reading → Type 0
HasCarriable reading = reading.numbers.high < 2 ^ 63
