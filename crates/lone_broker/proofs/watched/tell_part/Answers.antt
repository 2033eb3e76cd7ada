use Rattle.lone_broker.proofs.Telling.{told_watched_at}
use Rattle.lone_broker.proofs.watched.tell_part.Goals as goal

pub returns-clause-watched : goal.returns-clause-watched
returns-clause-watched c =
    told_watched_at c.args.waiters.now c.tell_gauges.new.waiters c.args.told.now c.args.part _ c.numbers-now.result c.requires.there c.tell_gauges.ensures.warned c.tell_gauges.ensures.told
