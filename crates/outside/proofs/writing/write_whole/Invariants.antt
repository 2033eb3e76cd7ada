use Rattle.std.proofs.Common.{◌≡◌, ◌-◌, ◌≤◌, length, take}
use Rattle.std.specs.Io.KnownBytes.{Appends}
use Rattle.outside.specs.Alike.{ShowsAlike}
use Rattle.outside.proofs.writing.write_whole.Given as goal

abbrev pub invariant-loop-done : goal.invariant-loop-done
invariant-loop-done g l = record {
  written : Appends (g.L.Link.written l.initial.link) (g.L.Link.written l.link) (take l.done l.part);
  told : ShowsAlike (g.L.Link.written l.initial.link) (g.L.Link.written l.link);
  taken : g.L.Link.taken l.link ≡ g.L.Link.taken l.initial.link;
  left : g.L.Link.left l.link ≡ g.L.Link.left l.initial.link;
  shut : g.L.Link.is_shut l.link ≡ g.L.Link.is_shut l.initial.link;
  later : g.L.Link.faults l.initial.link ≤ g.L.Link.faults l.link;
  within : l.done ≤ length l.part;
}

abbrev pub decreases-loop-done : goal.decreases-loop-done
decreases-loop-done g l = length l.part - l.done
