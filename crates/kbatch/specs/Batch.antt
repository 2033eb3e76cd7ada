-- The record batch, version 2 (Kafka's record batch format), as far as this project takes it: its records aren't
-- compressed, and it belongs to no transaction and is no control batch.
use Rattle.std.specs.Prelude.{◌≡◌, ◌≤◌, ℕ, ◌%◌, pos, ◌+ℤ◌, List, ◌++◌, length, drop}
use Rattle.std.specs.List.{AllByRecursion}
use Rattle.std.specs.Int.{w16, cast_unsigned, IsBitSet}
use Rattle.kbatch.specs.declared.record.Record.{Record}
use Rattle.kbatch.specs.Crc.{crc32c_of}
use Rattle.kbatch.specs.Record.{IsRecord, records_from}
use Rattle.kbatch.specs.Head.{Head, IsHead, head_bytes}

-- a mebibyte, and twelve bytes for the base offset and the length
abbrev pub most_bytes : ℕ
most_bytes = 1048588

-- the lowest three bits of the attributes
abbrev pub codec_of : ℕ → ℕ
codec_of attributes = attributes % 8

-- the bytes are those of a batch of these records
pub record IsBatch (bytes : List ℕ) (records : List Record) : Type 0 where
  pub head : Head
  pub in_range : IsHead head
  pub each : AllByRecursion IsRecord records
  pub parts : bytes ≡ head_bytes head ++ records_from 0 records
  pub most : length bytes ≤ most_bytes
  -- the length is the number of bytes after it
  pub batch_length : head.batch_length +ℤ pos 12 ≡ pos (length bytes)
  pub magic : head.magic ≡ pos 2
  -- the crc is that of the bytes after it, which begin with the attributes
  pub crc : head.crc ≡ crc32c_of (drop 21 bytes)
  pub plain : codec_of (cast_unsigned w16 head.attributes) ≡ 0
  pub no_transaction : ¬ IsBitSet (cast_unsigned w16 head.attributes) 4
  pub no_control : ¬ IsBitSet (cast_unsigned w16 head.attributes) 5
  pub count : head.count ≡ pos (length records)
  pub some_record : 1 ≤ length records
  pub last : head.last_offset_delta +ℤ pos 1 ≡ head.count
