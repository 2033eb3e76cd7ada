-- What a list ends as, where a `&mut` to its items is returned: the items that were left behind it,
-- which are as many as before.
use Rattle.std.specs.Prelude.{List as Items, ◌++◌, length, take, drop}
use Rattle.std.specs.Prelude.{ℕ}
use Rattle.std.specs.Borrow.{Lends, Fml, RattleType, MutBor, Array, u8}
use Rattle.kbytes.specs.declared.list.List.{List}
use Rattle.kbytes.specs.declared.bytes.Bytes.{Bytes}
use Rattle.kbytes.specs.contracts.list.List.{the_row}
use Rattle.kbytes.specs.contracts.bytes.Bytes.{the_row as bytes_row}

module _ (T : RattleType) (l : MutBor (List T.Denot)) where
  abbrev pub lends_items : MutBor (Items T.Denot) → Fml
  lends_items r = Lends (the_row T) (Array T 0) l r (λ w. take (length l.now) (w ++ drop (length w) l.now))

abbrev pub lends_bytes : MutBor Bytes → MutBor (Items ℕ) → Fml
lends_bytes b r = Lends bytes_row (Array u8 0) b r (λ w. take (length b.now) (w ++ drop (length w) b.now))
