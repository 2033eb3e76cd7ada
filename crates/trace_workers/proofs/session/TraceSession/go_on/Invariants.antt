use Rattle.std.proofs.Common.{◌≡◌, ℕ, List}
use Rattle.trace_workers.specs.Received.{HasReceived}
use Rattle.trace_workers.specs.Sessions.{IsSameSession}
use Rattle.trace_workers.proofs.session.TraceSession.go_on.Given as goal

abbrev pub invariant-loop : goal.invariant-loop
invariant-loop g l = record {
  same : IsSameSession l.initial.self l.self;
  named : l.self.is_named ≡ l.initial.self.is_named;
  shut : l.self.is_shut ≡ l.initial.self.is_shut;
  received : (input : List ℕ) → HasReceived input l.initial.self → HasReceived input l.self;
}
