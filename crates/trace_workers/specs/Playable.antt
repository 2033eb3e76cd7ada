-- Lines as a trace has them: sessions below 64 and moments within the limit, topics that may be declared, no bytes and no second close behind a session's
-- close, and moments that don't fall.
use Rattle.std.specs.Prelude.{ℕ, List}
use Rattle.trace_file.specs.declared.line.Line.{Line}
use Rattle.trace_file.specs.Trace.{IsTrace}

-- they are those of some text
abbrev pub AreTraced : List Line → Type 0
AreTraced lines = (text : List ℕ) × IsTrace text lines
