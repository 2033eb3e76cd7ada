-- How many bytes of records were read for a reply, and how many it may still take.
use Rattle.std.specs.Prelude.{ℕ, ◌+◌, List, length, sum_by, if◌then◌else◌}
use Rattle.partlog.specs.declared.part_log.TheConstants.{MOST_LOG_BYTES}
use Rattle.kanswer.specs.declared.accepted.Reading.{Reading}
use Rattle.kanswer.specs.declared.accepted.Budget.{Budget}

-- the bytes of records that were read
abbrev pub bytes_read : List Reading → ℕ
bytes_read readings = sum_by (λ reading. length reading.records) readings

-- the most that a reply may still take: what is left, and the first batch of a log whatever its length
abbrev pub most_left : Budget → ℕ
most_left budget = budget.left + (if budget.any then 0 else MOST_LOG_BYTES)
