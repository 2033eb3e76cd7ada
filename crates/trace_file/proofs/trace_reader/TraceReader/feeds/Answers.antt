use Rattle.std.proofs.Common.{sym, subst, ◌∙◌}
use Rattle.trace_file.specs.LineFaults.{IsPieceFault}
use Rattle.trace_file.specs.TextRead.{AreUpToBad}
use Rattle.trace_file.specs.Trace.{pieces_of}
use Rattle.trace_file.proofs.Begun.{lines_whole}
use Rattle.trace_file.proofs.Taking.{none_is}
use Rattle.trace_file.proofs.TextSoFar.{zip_length}
use Rattle.trace_file.proofs.trace_reader.TraceReader.feeds.Goals as goal

pub returns-else-is_bad : goal.returns-else-is_bad
returns-else-is_bad c = λ only text short.
    let reading = c.args.self.now.reading in
    let pieces = pieces_of short.front in
    let zip = subst (AreUpToBad (IsPieceFault only reading.lines) pieces reading.lines) (none_is reading.fault (sym c.is_bad.ensures ∙ c.if-is_bad.false)) short.read.lines in
    c.len.ensures ∙ sym (zip_length pieces reading.lines zip) ∙ lines_whole text short.front c.args.self.now.begun short.cut
