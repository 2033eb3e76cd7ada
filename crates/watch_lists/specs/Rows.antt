use Rattle.std.specs.Prelude.{ℕ, ◌*◌, ◌<◌, ◌≤◌, ◌^◌, List, Vec, length, slice_index_or, vec_capacity}
use Rattle.std.specs.declared.alloc.Global.{Global}
use Rattle.watch_lists.specs.declared.watch.Watch.{Watch}
use Rattle.watch_lists.specs.Row.{IsRow}

-- the lists of a shard: a row for each key, with room for every id
pub record AreRows (ids : ℕ) (rows : List (Vec Watch Global)) : Type 0 where
  pub row : (key : ℕ) (d : Vec Watch Global) → key < length rows → IsRow key ids (slice_index_or rows key d).items
  pub room : (key : ℕ) (d : Vec Watch Global) → key < length rows → ids ≤ vec_capacity (slice_index_or rows key d)
  pub small : length rows * ids ≤ 2 ^ 20
