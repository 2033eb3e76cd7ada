-- What a reader is to contracts: bytes, and the place up to which they were read.
use Rattle.std.specs.Prelude.{ℕ, ◌+◌, List, drop}

pub record Cursor : Type 0 where
  pub bytes : List ℕ
  pub at : ℕ

-- what is left
abbrev pub rest_of : Cursor → List ℕ
rest_of c = drop c.at c.bytes

-- the same, read on by so many bytes
abbrev pub moved : Cursor → ℕ → Cursor
moved c count = record { bytes = c.bytes; at = c.at + count }
