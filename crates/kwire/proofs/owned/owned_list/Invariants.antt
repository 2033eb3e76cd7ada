use Rattle.std.proofs.Common.{◌≡◌, map, take}
use Rattle.kwire.proofs.owned.owned_list.Given as goal

abbrev pub invariant-loop-item : goal.invariant-loop-item
invariant-loop-item g l = l.copies ≡ map g.T.Borrowed.owned (take l.item-index l.items)
