use Rattle.std.proofs.lemmas.Bool.{OnFalse_at}
use Rattle.timing_wheel.proofs.Starts.{level_waits, level_waits_after}
use Rattle.timing_wheel.proofs.turn.turn_level.Goals as goal

pub first_start-start-requires-clause-wait : goal.first_start-start-requires-clause-wait
first_start-start-requires-clause-wait c = level_waits_after c.args.level c.args.now c.args.t c.pass_buckets.new.entries c.pass_buckets.ensures.below

pub returns-else-may_start-clause-below : goal.returns-else-may_start-clause-below
returns-else-may_start-clause-below c =
    level_waits c.args.level c.args.now c.args.t c.args.entries.now c.requires.later (OnFalse_at c.if-may_start.false c.may_start.ensures) c.requires.below
