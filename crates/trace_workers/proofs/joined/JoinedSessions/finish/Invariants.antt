use Rattle.std.proofs.Common.{ℕ, List}
use Rattle.trace_file.specs.declared.line.Line.{Line}
use Rattle.trace_workers.specs.Joined.{HasRun, KeepAsBefore}
use Rattle.trace_workers.proofs.joined.JoinedSessions.finish.Given as goal

abbrev pub invariant-loop : goal.invariant-loop
invariant-loop g l = record {
  run : (lines : List Line) (count : ℕ) → HasRun l.broker lines count l.drain l.initial.self → HasRun l.broker lines count l.drain l.self;
  kept : KeepAsBefore l.initial.self l.self;
}
