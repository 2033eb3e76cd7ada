use Rattle.audit.proofs.broker.PlayOnce.{play_is_one}
use Rattle.audit.proofs.broker.PlaySome.{lines_play}
use Rattle.audit.proofs.broker.promises.lines_play.Goals as goal

pub returns-clause-some : goal.returns-clause-some
returns-clause-some c = lines_play

pub returns-clause-once : goal.returns-clause-once
returns-clause-once c = play_is_one
