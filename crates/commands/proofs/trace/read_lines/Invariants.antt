use Rattle.std.proofs.Common.{◌≡◌, ◌+◌, ◌-◌, ◌<◌, ◌≤◌, List, ℕ, length, vec_len}
use Rattle.std.specs.Io.KnownBytes.{Consumes}
use Rattle.trace_file.specs.declared.line.TheConstants.{MOST_TRACE_BYTES}
use Rattle.trace_file.specs.TextRead.{HasTaken}
use Rattle.commands.proofs.trace.read_lines.Given as goal

abbrev pub invariant-parts : goal.invariant-parts
invariant-parts g l = record {
  text : List ℕ;
  taken : HasTaken l.only_topics text l.reader;
  consumed : Consumes (g.S.Source.left l.initial.source) (g.S.Source.left l.source) text;
  later : g.S.Source.faults l.initial.source ≤ g.S.Source.faults l.source;
  few : length text ≤ MOST_TRACE_BYTES;
  room : 0 < vec_len l.room;
}

abbrev pub decreases-parts : goal.decreases-parts
decreases-parts g l = (MOST_TRACE_BYTES + 1) - l.reader.length
