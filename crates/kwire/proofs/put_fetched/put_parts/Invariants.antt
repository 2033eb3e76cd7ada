use Rattle.std.proofs.Common.{take}
use Rattle.std.specs.List.{flat_map}
use Rattle.kwire.specs.Spelling.{fetched_part_fields}
use Rattle.kwire.proofs.Spelled.{Put}
use Rattle.kwire.proofs.put_fetched.put_parts.Given as goal

abbrev pub invariant-loop-part : goal.invariant-loop-part
invariant-loop-part l = Put l.fn.out l.out (flat_map (fetched_part_fields l.version l.isolation) (take l.part-index l.parts))
