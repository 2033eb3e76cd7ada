-- The header of a record batch: 61 bytes (Kafka's record batch format, version 2).
use Rattle.std.specs.Prelude.{ℕ, ◌<◌, ◌^◌, ℤ, List, [], ◌∷◌, FitsSigned}
use Rattle.std.specs.Int.{w8, w16, w32, w64}
use Rattle.kbytes.specs.Field.{fields, Int8, Int16, Int32, Uint32, Int64}

-- its length in bytes
abbrev pub head_size : ℕ
head_size = 61

pub record Head : Type 0 where
  pub base_offset : ℤ
  pub batch_length : ℤ
  pub leader_epoch : ℤ
  pub magic : ℤ
  pub crc : ℕ
  pub attributes : ℤ
  pub last_offset_delta : ℤ
  pub base_timestamp : ℤ
  pub max_timestamp : ℤ
  pub producer_id : ℤ
  pub producer_epoch : ℤ
  pub base_sequence : ℤ
  pub count : ℤ

unfoldable pub head_bytes : Head → List ℕ
head_bytes h =
    fields (Int64 h.base_offset ∷ Int32 h.batch_length ∷ Int32 h.leader_epoch ∷ Int8 h.magic ∷ Uint32 h.crc
    ∷ Int16 h.attributes ∷ Int32 h.last_offset_delta ∷ Int64 h.base_timestamp ∷ Int64 h.max_timestamp
    ∷ Int64 h.producer_id ∷ Int16 h.producer_epoch ∷ Int32 h.base_sequence ∷ Int32 h.count ∷ [])

-- each number is one of its field's type
pub record IsHead (h : Head) : Type 0 where
  pub base_offset : FitsSigned w64 h.base_offset
  pub batch_length : FitsSigned w32 h.batch_length
  pub leader_epoch : FitsSigned w32 h.leader_epoch
  pub magic : FitsSigned w8 h.magic
  pub crc : h.crc < 2 ^ 32
  pub attributes : FitsSigned w16 h.attributes
  pub last_offset_delta : FitsSigned w32 h.last_offset_delta
  pub base_timestamp : FitsSigned w64 h.base_timestamp
  pub max_timestamp : FitsSigned w64 h.max_timestamp
  pub producer_id : FitsSigned w64 h.producer_id
  pub producer_epoch : FitsSigned w16 h.producer_epoch
  pub base_sequence : FitsSigned w32 h.base_sequence
  pub count : FitsSigned w32 h.count
