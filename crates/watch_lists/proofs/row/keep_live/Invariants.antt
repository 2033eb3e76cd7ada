use Rattle.std.proofs.Common.{◌≡◌, ◌≤◌, length, vec_capacity}
use Rattle.std.proofs.lemmas.List.Filters.{FiltersInPlace}
use Rattle.watch_lists.specs.Watches.{is_live}
use Rattle.watch_lists.proofs.row.keep_live.Given as goal

abbrev pub invariant-loop-at : goal.invariant-loop-at
invariant-loop-at l = record {
  behind : l.kept ≤ l.at;
  long : length l.row.items ≡ length l.initial.row.items;
  room : vec_capacity l.row ≡ vec_capacity l.initial.row;
  filters : FiltersInPlace (is_live l.live) l.initial.row.items l.row.items l.kept l.at;
}
