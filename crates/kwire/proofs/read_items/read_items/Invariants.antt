use Rattle.std.proofs.Common.{◌≡◌, ◌≤◌, length}
use Rattle.std.specs.List.{AllByRecursion}
use Rattle.kwire.specs.Reading.{layout_at}
use Rattle.kwire.proofs.ItemLoops.{ItemsSoFar}
use Rattle.kwire.proofs.read_items.read_items.Given as goal

abbrev pub invariant-loop : goal.invariant-loop
invariant-loop g l = record { place : length l.items ≡ l.counter; few : l.named ≤ 64; fitting : AllByRecursion (g.T.Item.fits l.head.version) l.items; so_far : ItemsSoFar (layout_at (g.T.Item.layout l.head.version)) (g.T.Item.fields l.head.version) l.count l.fn.named l.fn.reader l.items l.named l.reader }
