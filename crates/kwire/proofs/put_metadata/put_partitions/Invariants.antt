use Rattle.std.specs.List.{flat_map, range_with_len}
use Rattle.kwire.specs.Spelling.{partition_fields}
use Rattle.kwire.proofs.Spelled.{Put}
use Rattle.kwire.proofs.put_metadata.put_partitions.Given as goal

abbrev pub invariant-loop-index : goal.invariant-loop-index
invariant-loop-index l = Put l.fn.out l.out (flat_map (partition_fields l.followers) (range_with_len 0 l.index))
