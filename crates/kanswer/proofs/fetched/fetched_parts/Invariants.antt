use Rattle.std.proofs.Common.{◌≡◌, ◌++◌, drop}
use Rattle.kanswer.specs.ToldParts.{parts_by, fetched_part}
use Rattle.kanswer.proofs.fetched.fetched_parts.Given as goal

abbrev pub invariant-loop-at : goal.invariant-loop-at
invariant-loop-at l =
    l.told ++ parts_by fetched_part (drop l.at l.parts) (drop l.at l.accepted) (drop l.at l.readings) ≡ parts_by fetched_part l.parts l.accepted l.readings
