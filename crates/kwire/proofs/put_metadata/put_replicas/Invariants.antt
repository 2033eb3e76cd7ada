use Rattle.std.proofs.Common.{◌+◌, pos, Some, ◌∷◌, map}
use Rattle.std.specs.List.{range_with_len}
use Rattle.kbytes.specs.Field.{Int32, Array}
use Rattle.kwire.proofs.Spelled.{Put}
use Rattle.kwire.proofs.put_metadata.put_replicas.Given as goal

abbrev pub invariant-loop-replica : goal.invariant-loop-replica
invariant-loop-replica l = Put l.fn.out l.out (Array (Some (l.followers + 1)) ∷ map (λ replica. Int32 (pos replica)) (range_with_len 0 l.replica))
