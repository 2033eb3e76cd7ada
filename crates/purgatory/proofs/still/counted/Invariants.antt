use Rattle.std.proofs.Common.{◌≡◌, ◌*◌, ◌^◌, ◌≤◌, take}
use Rattle.purgatory.specs.Ends.{seats_of, taken_of, won_by_passes}
use Rattle.purgatory.proofs.still.counted.Given as goal

abbrev pub invariant-loop-i : goal.invariant-loop-i
invariant-loop-i l = record {
  won : l.won ≡ won_by_passes (seats_of (take l.i l.passes));
  taken : l.taken ≡ taken_of (seats_of (take l.i l.passes));
  few_won : l.won ≤ l.i * 2 ^ 32;
  few_taken : l.taken ≤ l.i * 2 ^ 32;
}
