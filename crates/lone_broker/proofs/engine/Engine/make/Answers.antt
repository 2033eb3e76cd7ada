use Rattle.lone_broker.proofs.Finishing.{opening_stands}
use Rattle.lone_broker.proofs.engine.Engine.make.Goals as goal

pub returns : goal.returns
returns c = opening_stands c.args.config c.in_ok-parts.parts c.new.result c.in_ok-parts.desks c.in_ok-parts.parked c.in_ok-parts.ensures.declared c.in_ok-parts.ensures.logs c.new.ensures c.in_ok-parts.ensures.desks c.in_ok-parts.ensures.parked
