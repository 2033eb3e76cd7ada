use Rattle.std.proofs.Common.{ap, ◌∙◌, map}
use Rattle.partlog.specs.Gauges.{numbers_of}
use Rattle.partlog.specs.History.{History}
use Rattle.partlog.specs.State.{state_of}
use Rattle.lone_broker.proofs.Scanning.{opened_watched}
use Rattle.lone_broker.proofs.watched.Watched.make.Goals as goal

pub returns-clause-watched : goal.returns-clause-watched
returns-clause-watched c =
    opened_watched c.in_ok-engine.engine c.args.config c.in_ok-told.told c.in_ok-told.waiters c.none.result c.in_ok-engine.ensures
    (c.in_ok-told.ensures.told ∙ ap (map (λ (h : History). numbers_of (state_of h))) c.parts.ensures) c.in_ok-told.ensures.idle c.in_ok-told.ensures.suspects c.none.ensures
