use Rattle.std.proofs.Common.{◌≡◌, map}
use Rattle.trace_workers.specs.Sessions.{desk_of}
use Rattle.trace_workers.proofs.Sessions.{pass_of}
use Rattle.trace_workers.proofs.joined.take_apart.Given as goal

abbrev pub invariant-loop-session : goal.invariant-loop-session
invariant-loop-session l = record {
  passes : l.parts.passes ≡ map pass_of l.yielded;
  desks : l.parts.desks ≡ map desk_of l.yielded;
}
