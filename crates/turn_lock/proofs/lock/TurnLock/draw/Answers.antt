use Rattle.std.proofs.Common.{rules, refl}
use Rattle.turn_lock.specs.declared.known.Stage.TheVariants.{Idle}
use Rattle.turn_lock.specs.Passes.{at_stage, known_of}
use Rattle.turn_lock.proofs.Steps.{draws_for}
use Rattle.turn_lock.proofs.lock.TurnLock.draw.Goals as goal

pub fetch_add-requires : goal.fetch_add-requires
fetch_add-requires g c = (
  search rules,
  search rules,
  draws_for g.T.Kept.entries g.T.Kept.by g.T.Kept.name _ _ _ _ _ (at_stage Idle (known_of c.args.seat.now.me.0)) c.requires.1 refl,
)

pub returns : goal.returns
returns g c = (
  search rules,
  search rules,
  c.fetch_add.ensures.2 (at_stage Idle (known_of c.args.seat.now.me.0)) c.requires.1,
)
