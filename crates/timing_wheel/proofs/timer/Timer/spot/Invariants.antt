use Rattle.std.proofs.Common.{◌≡◌, ◌-◌, ◌<◌}
use Rattle.timing_wheel.specs.Place.{tick_of, least_from, level_of}
use Rattle.timing_wheel.proofs.timer.Timer.spot.Given as goal

abbrev pub invariant-loop-tick : goal.invariant-loop-tick
invariant-loop-tick l =
    record { low : l.level < 8; tick : l.tick ≡ tick_of l.level; level : level_of l.fn.self ≡ least_from (8 - l.level) l.level l.fn.self.deadline l.fn.self.put }

abbrev pub decreases-loop-tick : goal.decreases-loop-tick
decreases-loop-tick l = 8 - l.level
