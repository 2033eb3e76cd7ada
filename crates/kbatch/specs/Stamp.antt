-- What a broker writes into a batch that it appends: its base offset, and the leader epoch 0.
use Rattle.std.specs.Prelude.{ℕ, pos, List, ◌++◌, take, drop}
use Rattle.kbytes.specs.Field.{field, Int32, Int64}

abbrev pub stamped : ℕ → List ℕ → List ℕ
stamped base bytes = field (Int64 (pos base)) ++ (take 4 (drop 8 bytes) ++ (field (Int32 (pos 0)) ++ drop 16 bytes))
