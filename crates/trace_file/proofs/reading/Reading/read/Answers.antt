use Rattle.std.proofs.lemmas.Result.{on_ok_weaker}
use Rattle.trace_file.specs.Trace.{pieces_of}
use Rattle.trace_file.proofs.reading.Reading.read.Goals as goal

pub returns-clause-taken : goal.returns-clause-taken
returns-clause-taken c = on_ok_weaker c.take.result (λ taken only before h. taken only before (pieces_of c.args.part.now) h c.in_ok-lines.ensures) c.take.ensures.taken
