use Rattle.std.proofs.Common.{◌≡◌, ℕ, Bool, List}
use Rattle.std.specs.Prelude.{All}
use Rattle.trace_file.specs.declared.line.Line.{Line}
use Rattle.trace_workers.specs.Joined.{HasRun}
use Rattle.trace_workers.specs.Sessions.{KeepsLines}
use Rattle.trace_workers.proofs.joined.JoinedSessions.close.Given as goal

abbrev pub invariant-loop : goal.invariant-loop
invariant-loop g l = record {
  broker : l.left.broker ≡ l.fn.broker;
  run : (lines : List Line) (count : ℕ) → HasRun l.fn.broker lines count l.drain l.fn.self → HasRun l.fn.broker lines count l.drain l.left.joined;
  kept : (keeps : Bool) → All (KeepsLines keeps) l.fn.self.sessions → All (KeepsLines keeps) l.left.joined.sessions;
}
