use Rattle.std.proofs.Common.{◌≡◌, ℕ, List}
use Rattle.trace_file.specs.declared.line.Line.{Line}
use Rattle.trace_workers.specs.Joined.{HasJoined, KeepAsBefore}
use Rattle.trace_workers.proofs.joined.JoinedSessions.go_on.Given as goal

abbrev pub invariant-loop : goal.invariant-loop
invariant-loop g l = record {
  clock : l.self.clock ≡ l.initial.self.clock;
  whole : (lines : List Line) (count : ℕ) → HasJoined l.broker lines count l.initial.self → HasJoined l.broker lines count l.self;
  kept : KeepAsBefore l.initial.self l.self;
}
