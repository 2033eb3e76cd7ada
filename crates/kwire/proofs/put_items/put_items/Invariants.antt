use Rattle.std.proofs.Common.{take}
use Rattle.std.specs.List.{flat_map}
use Rattle.kwire.proofs.Spelled.{Put}
use Rattle.kwire.proofs.put_items.put_items.Given as goal

abbrev pub invariant-loop-item : goal.invariant-loop-item
invariant-loop-item g l = Put l.fn.out l.out (flat_map (g.T.Written.written l.version) (take l.item-index l.items))
