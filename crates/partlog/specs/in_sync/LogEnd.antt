-- The log end (Kafka's log end offset) is the sum of the counts of all that was appended.
use Rattle.std.specs.Prelude.{ℕ, List, sum_by}
use Rattle.partlog.specs.in_sync.ReplicaEvent.{ReplicaEvent, Appended, Fetched, Left}

abbrev pub added_by : ReplicaEvent → ℕ
added_by (Appended count) = count
added_by (Fetched replica offset t) = 0
added_by (Left replica t) = 0

abbrev pub log_end_of : List ReplicaEvent → ℕ
log_end_of events = sum_by added_by events
