use Rattle.std.proofs.Common.{◌<◌, sym, subst}
use Rattle.std.specs.Prelude.{All}
use Rattle.room_core.specs.declared.shape.Shape.{Shape}
use Rattle.room_core.specs.Gauges.{clock_of}
use Rattle.opcond.specs.declared.need.Need.{Need}
use Rattle.two_warehouses.proofs.place.Goals as goal

pub register-requires-clause-gauges : goal.register-requires-clause-gauges
register-requires-clause-gauges g c = subst (λ (s : Shape). All (λ (need : Need). need.gauge < clock_of s) c.args.op.now.needs) (sym c.requires.shape) c.requires.op
