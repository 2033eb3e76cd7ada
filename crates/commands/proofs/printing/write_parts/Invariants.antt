use Rattle.std.proofs.Common.{◌≤◌, take}
use Rattle.std.specs.Io.KnownBytes.{Appends}
use Rattle.trace_workers.specs.Telling.{joined}
use Rattle.commands.proofs.printing.write_parts.Given as goal

abbrev pub invariant-loop-part : goal.invariant-loop-part
invariant-loop-part g l = record {
  written : Appends (g.K.Sink.written l.initial.sink) (g.K.Sink.written l.sink) (joined l.account (take l.part-index l.parts));
  later : g.K.Sink.faults l.initial.sink ≤ g.K.Sink.faults l.sink;
}
