use Rattle.std.proofs.Common.{ℕ, ◌<◌, ◌≤◌, ◌-◌, length, get_or}
use Rattle.watch_lists.specs.declared.watch.Watch.{Watch}
use Rattle.watch_lists.proofs.row.place_in.Given as goal

abbrev pub invariant-loop-low : goal.invariant-loop-low
invariant-loop-low l = record {
  ordered : l.low ≤ l.high;
  within : l.high ≤ length l.row;
  before : (k : ℕ) (d : Watch) → k < l.low → (get_or l.row k d).id < l.id;
  after : (k : ℕ) (d : Watch) → l.high ≤ k → k < length l.row → l.id ≤ (get_or l.row k d).id;
}

abbrev pub decreases-loop-low : goal.decreases-loop-low
decreases-loop-low l = l.high - l.low
