use Rattle.std.proofs.Common.{◌≡◌, ◌≤◌, ◌+◌, ◌*◌, ◌^◌, drop}
use Rattle.opcond.specs.Tally.{tally}
use Rattle.opcond.proofs.reached.tally.Given as goal

-- what is left to count, and that each need counts less than 2^31
abbrev pub invariant-loop-i : goal.invariant-loop-i
invariant-loop-i l = record {
  rest : l.total + tally (drop l.i l.needs) (drop l.i l.values) ≡ tally l.needs l.values;
  small : l.total ≤ l.i * 2 ^ 31;
}
