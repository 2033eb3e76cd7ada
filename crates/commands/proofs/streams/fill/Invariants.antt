use Rattle.std.proofs.Common.{◌≡◌, ◌-◌, ◌≤◌, length, take}
use Rattle.std.specs.Io.KnownBytes.{Consumes}
use Rattle.commands.proofs.streams.fill.Given as goal

abbrev pub invariant-loop-count : goal.invariant-loop-count
invariant-loop-count g l = record {
  consumed : Consumes (g.S.Source.left l.initial.source) (g.S.Source.left l.source) (take l.count l.room);
  later : g.S.Source.faults l.initial.source ≤ g.S.Source.faults l.source;
  within : l.count ≤ length l.room;
  size : length l.room ≡ length l.initial.room;
}

abbrev pub decreases-loop-count : goal.decreases-loop-count
decreases-loop-count g l = length l.room - l.count
