-- What a replica is to contracts: a follower's copy of a partition's log.
use Rattle.std.specs.Prelude.{ℕ, ℤ, List}

-- the partition and the follower's number; the log's bytes, the offset of its next record, and the high watermark as far as it was told
pub record Copy : Type 0 where
  pub topic : List ℕ
  pub index : ℤ
  pub id : ℤ
  pub log : List ℕ
  pub end : ℕ
  pub high : ℕ
