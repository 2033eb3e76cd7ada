use Rattle.std.proofs.Common.{◌∙◌, sym}
use Rattle.timing_wheel.proofs.Waiting.{listed_waits}
use Rattle.timing_wheel.proofs.wheels.Wheels.where_is.Goals as goal

pub place-requires : goal.place-requires
place-requires c =
    (listed_waits c.self.inside.moment c.self.inside.entries c.args.id c.in_ok-timer.timer c.self.invariant (sym c.get.ensures ∙ c.in_ok-timer.was)).near
