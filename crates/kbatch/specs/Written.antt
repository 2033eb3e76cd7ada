-- The batch that a writer makes of records: from offset 0, plain, of no producer that is known, and with the greatest
-- time of its records as its max timestamp (Kafka's record batch format, version 2).
use Rattle.std.specs.Prelude.{ℕ, ◌+◌, ◌-◌, ℤ, pos, negsuc, List, [], ◌∷◌, ◌++◌, length, drop, map, fold}
use Rattle.std.specs.Int.{int_max}
use Rattle.kbatch.specs.declared.record.Record.{Record}
use Rattle.kbatch.specs.Crc.{crc32c_of}
use Rattle.kbatch.specs.Record.{records_from}
use Rattle.kbatch.specs.Head.{Head, head_bytes}

-- the greatest time of records, of which there is one at least
abbrev pub greatest_time : List Record → ℤ
greatest_time [] = pos 0
greatest_time (r ∷ rs) = fold int_max r.time (map (λ s. s.time) rs)

-- the header with a crc before so many bytes of so many records, with this greatest time
abbrev pub plain_head : ℕ → ℕ → ℕ → ℤ → Head
plain_head crc size count latest = record {
  base_offset = pos 0;
  batch_length = pos (49 + size);
  leader_epoch = pos 0;
  magic = pos 2;
  crc = crc;
  attributes = pos 0;
  last_offset_delta = pos (count - 1);
  base_timestamp = pos 0;
  max_timestamp = latest;
  producer_id = negsuc 0;
  producer_epoch = negsuc 0;
  base_sequence = negsuc 0;
  count = pos count;
}

-- the bytes with this crc
abbrev pub written_with : ℕ → List Record → List ℕ
written_with crc records =
    head_bytes (plain_head crc (length (records_from 0 records)) (length records) (greatest_time records)) ++ records_from 0 records

-- the crc is that of the bytes after it, so any crc may stand before them
abbrev pub written : List Record → List ℕ
written records = written_with (crc32c_of (drop 21 (written_with 0 records))) records

abbrev pub written_size : List Record → ℕ
written_size records = 61 + length (records_from 0 records)
