-- Whether an accepted request waits, and the operation that it becomes.
use Rattle.std.specs.Prelude.{ℕ, ◌+◌, ◌-◌, ◌%◌, min, ℤ, pos, negsuc, Bool, true, false, ◌&&◌, not, List, [], length, map, nat_lt, ◌==◌, if◌then◌else◌, Option, Some, None}
use Rattle.std.specs.List.{filter_map, list_any, zip}
use Rattle.std.specs.Ordering.{int_eq}
use Rattle.partlog.specs.State.{PartState as State}
use Rattle.partlog.specs.Gauges.{gauges_of}
use Rattle.kwire.specs.declared.request.Ask.{Ask}
use Rattle.kwire.specs.declared.request.Ask.TheVariants.{Produce, Fetch, Metadata, Versions}
use Rattle.kwire.specs.declared.request.FetchPart.{FetchPart}
use Rattle.kanswer.specs.declared.accepted.Accepted.{Accepted}
use Rattle.kanswer.specs.declared.accepted.Accepted.TheVariants.{Refused, Appended, Seen}
use Rattle.kanswer.specs.declared.accepted.TheConstants.{MOST_REPLY_BYTES}
use Rattle.opcond.specs.Tally.{tally}
use Rattle.opcond.specs.declared.need.Need.{Need}
use Rattle.opcond.specs.Operation.{Operation}
use Rattle.kanswer.specs.Decisions.{fetch_parts}
use Rattle.kanswer.specs.PartitionGauges.{fetched_gauge, high_gauge}
-- whether a replica id is a consumer's
pub use Rattle.kanswer.specs.PartitionGauges.{is_consumer}

-- what became of a named partition, and a state of it
pub record Shown : Type 0 where
  pub result : Accepted
  pub state : State

-- a number, and 0 for one below 0
abbrev pub at_least_zero : ℤ → ℕ
at_least_zero (pos n) = n
at_least_zero (negsuc n) = 0

-- the most bytes of records of a reply
abbrev pub reply_limit : ℤ → ℕ
reply_limit max_bytes = min (at_least_zero max_bytes) MOST_REPLY_BYTES

-- an appended partition needs its high watermark after the batch
abbrev pub produce_need : Accepted → Option Need
produce_need (Refused code) = None
produce_need (Appended part base count) = Some (record { gauge = high_gauge part; start = base + count - 1; cap = 1 })
produce_need (Seen part start) = None

-- a consumer needs visible bytes, a follower bytes, from the start batch on
abbrev pub fetch_need : ℤ → FetchPart × Accepted → Option Need
fetch_need replica (asked, Refused code) = None
fetch_need replica (asked, Appended part base count) = None
fetch_need replica (asked, Seen part start) =
    Some (record { gauge = fetched_gauge replica part; start = start; cap = at_least_zero asked.most })

-- for each named partition its need, if any
abbrev pub needs_by_part : Ask → List Accepted → List (Option Need)
needs_by_part (Produce version transactional acks timeout topics) results = map produce_need results
needs_by_part (Fetch version replica max_wait min_bytes max_bytes isolation topics) results =
    map (fetch_need replica) (zip (map (λ named. named.1) (fetch_parts topics)) results)
needs_by_part (Metadata topics) results = []
needs_by_part (Versions version) results = []

-- the value of a partition's gauge in a state
abbrev pub gauge_value : ℕ → State → ℕ
gauge_value gauge state =
    if gauge % 3 == 0 then (gauges_of state).high else (if gauge % 3 == 1 then (gauges_of state).visible else (gauges_of state).bytes)

abbrev pub value_of : Option Need × State → Option ℕ
value_of (None, state) = None
value_of (Some need, state) = Some (gauge_value need.gauge state)

abbrev pub results_of : List Shown → List Accepted
results_of shown = map (λ s. s.result) shown

abbrev pub states_of : List Shown → List State
states_of shown = map (λ s. s.state) shown

abbrev pub needs_of : Ask → List Accepted → List Need
needs_of ask results = filter_map (λ need. need) (needs_by_part ask results)

-- the values of the needs' gauges in these states, in the order of the needs
abbrev pub values_of : Ask → List Shown → List ℕ
values_of ask shown = filter_map value_of (zip (needs_by_part ask (results_of shown)) (states_of shown))

-- the least tally at which the request is satisfied
abbrev pub least_of : Ask → List Need → ℕ
least_of (Produce version transactional acks timeout topics) needs = length needs
least_of (Fetch version replica max_wait min_bytes max_bytes isolation topics) needs = min (at_least_zero min_bytes) (reply_limit max_bytes)
least_of (Metadata topics) needs = 0
least_of (Versions version) needs = 0

-- how long it may wait, in milliseconds
abbrev pub wait_of : Ask → ℕ
wait_of (Produce version transactional acks timeout topics) = at_least_zero timeout
wait_of (Fetch version replica max_wait min_bytes max_bytes isolation topics) = at_least_zero max_wait
wait_of (Metadata topics) = 0
wait_of (Versions version) = 0

-- the operation, as it is accepted at a moment
abbrev pub operation_of : Ask → List Accepted → ℕ → Operation
operation_of ask results moment = record {
  needs = needs_of ask results;
  least = least_of ask (needs_of ask results);
  deadline = moment + wait_of ask;
}

abbrev pub is_refused : Accepted → Bool
is_refused (Refused code) = true
is_refused (Appended part base count) = false
is_refused (Seen part start) = false

-- some partition is named and none is refused
abbrev pub all_seen : List Accepted → Bool
all_seen results = nat_lt 0 (length results) && not (list_any is_refused results)

-- the states just seen don't satisfy it
abbrev pub falls_short : Ask → List Shown → Bool
falls_short ask shown =
    nat_lt (tally (needs_of ask (results_of shown)) (values_of ask shown)) (least_of ask (needs_of ask (results_of shown)))

-- the request becomes an operation
abbrev pub becomes_delayed : Ask → List Shown → Bool
becomes_delayed (Produce version transactional acks timeout topics) shown =
    int_eq acks (negsuc 0) && (nat_lt 0 (length (needs_of (Produce version transactional acks timeout topics) (results_of shown)))
    && falls_short (Produce version transactional acks timeout topics) shown)
becomes_delayed (Fetch version replica max_wait min_bytes max_bytes isolation topics) shown =
    nat_lt 0 (at_least_zero max_wait) && (all_seen (results_of shown)
    && falls_short (Fetch version replica max_wait min_bytes max_bytes isolation topics) shown)
becomes_delayed (Metadata topics) shown = false
becomes_delayed (Versions version) shown = false

-- it asks for no reply
abbrev pub is_quiet : Ask → Bool
is_quiet (Produce version transactional acks timeout topics) = int_eq acks (pos 0)
is_quiet (Fetch version replica max_wait min_bytes max_bytes isolation topics) = false
is_quiet (Metadata topics) = false
is_quiet (Versions version) = false
