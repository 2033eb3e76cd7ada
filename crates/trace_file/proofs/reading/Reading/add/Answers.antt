use Rattle.std.proofs.Common.{ap}
use Rattle.kwire.specs.Configuration.{Configuration}
use Rattle.trace_file.proofs.Fronts.{read_more}
use Rattle.trace_file.proofs.reading.Reading.add.Goals as goal

pub returns-clause-read : goal.returns-clause-read
returns-clause-read c =
    let lines = c.args.self.now.lines in
    let may = (c.allows.ensures lines c.requires.read.sees).0 c.if-not-allows.false in
    read_more c.args.self.now.only_topics c.args.self.now _ c.args.line c.requires.read may (c.in_ok-declare.ensures.allowed lines c.requires.read.config) c.in_ok-push.ensures.ok
    (ap (λ (k : Configuration). k.topics) c.in_ok-declare.ensures.added) (c.pass.ensures lines c.requires.read.sees)
