use Rattle.std.proofs.Common.{◌∙◌}
use Rattle.storm.proofs.Contents.{storm_sessions}
use Rattle.storm.proofs.load.sessions_in.Goals as goal

pub returns : goal.returns
returns c = λ seed. c.min.ensures ∙ storm_sessions seed c.args.n
