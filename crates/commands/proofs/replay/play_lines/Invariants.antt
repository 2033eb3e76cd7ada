use Rattle.std.proofs.Common.{◌≡◌, ◌≤◌, ◌++◌, length}
use Rattle.std.specs.Vec.Iter.{into_iter_items, into_iter_len}
use Rattle.commands.specs.LinesFront.{LinesPlayed}
use Rattle.commands.proofs.replay.play_lines.Given as goal

abbrev pub invariant-loop-line : goal.invariant-loop-line
invariant-loop-line g l = record {
  played : LinesPlayed (g.K.Sink.written l.initial.sink) (g.K.Sink.written l.sink) l.initial.lone.kept l.lone.kept l.yielded;
  len : into_iter_len l.line-iterator ≡ length (into_iter_items l.line-iterator);
  whole : l.yielded ++ into_iter_items l.line-iterator ≡ l.fn.lines;
  later : g.K.Sink.faults l.initial.sink ≤ g.K.Sink.faults l.sink;
}
