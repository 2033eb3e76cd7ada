-- What is wrong with bytes that are no batch, and what is wrong first.
use Rattle.std.specs.Prelude.{◌≡◌, ◌≢◌, ◌<◌, ◌⊎◌, ℕ, ◌+◌, pos, ◌+ℤ◌, ◌<ℤ◌, List, [], ◌++◌, length, drop}
use Rattle.std.specs.List.{AllByRecursion}
use Rattle.std.specs.Int.{IsBitSet}
use Rattle.kbatch.specs.declared.fault.BatchFault.{BatchFault}
use Rattle.kbatch.specs.declared.fault.BatchFault.TheVariants.{TooLarge, Short, Length, Magic, Crc, Compressed, Control, Count, Records, NoMemory}
use Rattle.kbatch.specs.declared.record.Record.{Record}
use Rattle.kbatch.specs.Crc.{crc32c_of}
use Rattle.kbatch.specs.Record.{IsRecord, record_bytes, records_from}
use Rattle.kbatch.specs.Head.{head_size}
use Rattle.kbatch.specs.Batch.{most_bytes, codec_of}
use Rattle.kbatch.specs.Kept.{kept_length, kept_magic, kept_crc, kept_attributes, kept_last, kept_count, count_of}

-- no record with this offset delta stands at the front
abbrev pub NoRecord : ℕ → List ℕ → Type 0
NoRecord delta bytes = (r : Record) (after : List ℕ) → IsRecord r → bytes ≢ record_bytes delta r ++ after

-- The records end as they should up to this place and not from there: the next doesn't read, or all have been read and
-- bytes remain.
pub record StopsAt (bytes : List ℕ) (at : ℕ) : Type 0 where
  pub before : List Record
  pub each : AllByRecursion IsRecord before
  pub rest : List ℕ
  pub parts : drop head_size bytes ≡ records_from 0 before ++ rest
  pub place : at ≡ head_size + length (records_from 0 before)
  pub why : ((length before < count_of bytes) × NoRecord (length before) rest) ⊎ ((length before ≡ count_of bytes) × (rest ≢ []))

-- what each fault says of the bytes
abbrev pub Applies : List ℕ → BatchFault → Type 0
Applies bytes (TooLarge len) = (len ≡ length bytes) × (most_bytes < length bytes)
Applies bytes Short = length bytes < head_size
Applies bytes (Length kept) = (kept ≡ kept_length bytes) × (kept +ℤ pos 12 ≢ pos (length bytes))
Applies bytes (Magic found) = (found ≡ kept_magic bytes) × (found ≢ pos 2)
Applies bytes (Crc kept found) = (kept ≡ kept_crc bytes) × (found ≡ crc32c_of (drop 21 bytes)) × (kept ≢ found)
Applies bytes (Compressed codec) = (codec ≡ codec_of (kept_attributes bytes)) × (codec ≢ 0)
Applies bytes Control = IsBitSet (kept_attributes bytes) 4 ⊎ IsBitSet (kept_attributes bytes) 5
Applies bytes (Count count last) = (count ≡ kept_count bytes) × (last ≡ kept_last bytes) × ((count <ℤ pos 1) ⊎ (last +ℤ pos 1 ≢ count))
Applies bytes (Records at) = StopsAt bytes at
Applies bytes NoMemory = ⊥

-- the order in which the faults are looked for
abbrev pub order : BatchFault → ℕ
order (TooLarge len) = 1
order Short = 2
order (Length kept) = 3
order (Magic found) = 4
order (Crc kept found) = 5
order (Compressed codec) = 6
order Control = 7
order (Count count last) = 8
order (Records at) = 9
order NoMemory = 10

-- no fault applies that comes before this place in the order
abbrev pub NoneBefore : ℕ → List ℕ → Type 0
NoneBefore place bytes = (f : BatchFault) → order f < place → ¬ Applies bytes f

abbrev pub IsFirstFault : List ℕ → BatchFault → Type 0
IsFirstFault bytes f = Applies bytes f × NoneBefore (order f) bytes
