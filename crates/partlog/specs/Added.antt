-- What an entry of a history adds to the log. Only an Append adds anything.
use Rattle.std.specs.Prelude.{ℕ, List, sum_by}
use Rattle.partlog.specs.declared.event.PartEvent.{PartEvent}
use Rattle.partlog.specs.declared.event.PartEvent.TheVariants.{Append, Follow, Look, Shrink}

-- records
abbrev pub added_count : PartEvent → ℕ
added_count (Append by seq count len) = count
added_count (Follow by seq replica offset t) = 0
added_count (Look by seq) = 0
added_count (Shrink by replica t) = 0

-- bytes
abbrev pub added_bytes : PartEvent → ℕ
added_bytes (Append by seq count len) = len
added_bytes (Follow by seq replica offset t) = 0
added_bytes (Look by seq) = 0
added_bytes (Shrink by replica t) = 0

-- the offset of the next record (Kafka's log end offset): the sum of all counts
abbrev pub log_end_of : List PartEvent → ℕ
log_end_of events = sum_by added_count events

-- the number of bytes that the entries added
abbrev pub bytes_of : List PartEvent → ℕ
bytes_of events = sum_by added_bytes events
