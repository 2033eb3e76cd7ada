use Rattle.std.proofs.Common.{◌-◌}
use Rattle.purgatory.proofs.holding.+hold_from.Given as goal

abbrev pub decreases-hold_from : goal.decreases-hold_from
decreases-hold_from g l = 16 - l.at
