use Rattle.std.proofs.Common.{◌≡◌, drop, max}
use Rattle.trace_file.specs.Contents.{sessions_of}
use Rattle.trace_workers.proofs.runs.sessions_of.Given as goal

abbrev pub invariant-loop-line : goal.invariant-loop-line
invariant-loop-line l = max l.count (sessions_of (drop l.line-index l.lines)) ≡ sessions_of l.lines
