use Rattle.std.proofs.Common.{◌≤◌, ◌-◌}
use Rattle.lone_broker.specs.Kept.{TurnsBy}
use Rattle.lone_broker.specs.Watching.{IsWatched}
use Rattle.lone_broker.proofs.Turning.{ScannedBelow}
use Rattle.lone_broker.proofs.watched.Watched.scan.Given as goal

abbrev pub invariant-loop-session : goal.invariant-loop-session
invariant-loop-session l = record {
  scans : TurnsBy (ScannedBelow l.from) l.fn.self.engine l.self.engine l.fn.out l.out;
  watched : IsWatched l.self;
  within : l.from ≤ 64;
}

abbrev pub decreases-loop-session : goal.decreases-loop-session
decreases-loop-session l = 64 - l.from
