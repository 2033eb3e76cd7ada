use Rattle.std.proofs.Common.{◌≡◌, ◌++◌, drop}
use Rattle.kanswer.specs.ToldParts.{parts_by, produced_part}
use Rattle.kanswer.proofs.produced.produced_parts.Given as goal

abbrev pub invariant-loop-at : goal.invariant-loop-at
invariant-loop-at l =
    l.told ++ parts_by (produced_part l.produce.config.now l.produce.acks) (drop l.at l.parts) (drop l.at l.accepted) (drop l.at l.readings) ≡ parts_by (produced_part l.produce.config.now l.produce.acks) l.parts l.accepted l.readings
