use Rattle.std.proofs.Common.{◌≡◌, ◌++◌, take}
use Rattle.std.specs.List.{flat_map}
use Rattle.audit.specs.Printed.{short_part_line, numbered}
use Rattle.audit.proofs.storm_print.put_parts.Given as goal

abbrev pub invariant-loop-number : goal.invariant-loop-number
invariant-loop-number l = l.out ≡ l.initial.out ++ flat_map short_part_line (numbered 0 (take l.number l.parts))
