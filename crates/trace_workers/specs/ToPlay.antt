-- The lines that are played: lent, given away, or those of a load.
use Rattle.std.specs.Prelude.{List, ◌≤◌, ⊤}
use Rattle.storm.specs.Lines.{storm_lines}
use Rattle.storm.specs.declared.load.TheConstants.{MOST_REQUESTS}
use Rattle.trace_file.specs.declared.line.Line.{Line}
use Rattle.trace_workers.specs.declared.runs.LinesToPlay.{LinesToPlay}

abbrev pub lines_in : LinesToPlay → List Line
lines_in (LinesToPlay.Lent lines) = lines.now
lines_in (LinesToPlay.Given lines) = lines
lines_in (LinesToPlay.Made load) = storm_lines load.seed load.requests

-- a load has no more requests than may be
abbrev pub HasFew : LinesToPlay → Type 0
HasFew (LinesToPlay.Lent lines) = ⊤
HasFew (LinesToPlay.Given lines) = ⊤
HasFew (LinesToPlay.Made load) = load.requests ≤ MOST_REQUESTS
