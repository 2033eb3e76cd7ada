use Rattle.std.proofs.Common.{rules, tests, ◌≡◌, ◌^◌, true, ltb, ◌∙◌, ne_eqb}
use Rattle.turn_lock.specs.declared.known.Stage.TheVariants.{Waits}
use Rattle.turn_lock.specs.Passes.{at_stage, known_of}
use Rattle.turn_lock.specs.Moves.{stage_of}
use Rattle.turn_lock.proofs.Steps.{looks_for, waits_by}
use Rattle.turn_lock.proofs.lock.TurnLock.wait.Goals as goal

pub load-serving-requires : goal.load-serving-requires
load-serving-requires g c =
    let below : ltb c.args.ticket (2 ^ 62) ≡ true = search (rules, tests) in
    let waits : stage_of c.args.ticket ≡ Waits c.args.ticket = waits_by (ltb c.args.ticket (2 ^ 62)) c.args.ticket below in (
      search rules,
      search rules,
      looks_for g.T.Kept.entries g.T.Kept.by g.T.Kept.name _ _ _ _ _ (at_stage (stage_of c.args.ticket) (known_of c.args.seat.now.me.0)) c.args.ticket (c.loop.invariant.2 ∙ c.requires.1) waits,
    )

pub loop-preserved : goal.loop-preserved
loop-preserved g c =
    let below : ltb c.args.ticket (2 ^ 62) ≡ true = search (rules, tests) in
    let waits : stage_of c.args.ticket ≡ Waits c.args.ticket = waits_by (ltb c.args.ticket (2 ^ 62)) c.args.ticket below in
    let told = c.load-serving.ensures.2 (at_stage (stage_of c.args.ticket) (known_of c.args.seat.now.me.0)) c.args.ticket (c.loop.invariant.2 ∙ c.requires.1) waits in (
      search rules,
      search rules,
      rw (ne_eqb c.load-serving.result c.args.ticket c.if-serving-ticket.false) at told ∙ c.loop.invariant.2,
    )
