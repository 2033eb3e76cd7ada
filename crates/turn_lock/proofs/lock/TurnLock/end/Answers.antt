use Rattle.std.proofs.Common.{rules, [], ◌∷◌, refl, sym, ap, ◌∙◌}
use Rattle.turn_lock.specs.declared.known.Stage.TheVariants.{Has}
use Rattle.turn_lock.specs.Passes.{at_stage, known_of, ended}
use Rattle.turn_lock.proofs.Steps.{Same, passes_on_for, put_back, ready, known_is}
use Rattle.turn_lock.proofs.lock.TurnLock.end.Goals as goal

pub store-requires : goal.store-requires
store-requires g c =
    let T = g.row.T.Denot in
    let E = g.row.T-Entry.Denot in
    let pass = c.args.pass.now.seat in
    let ticket = c.args.turn.ticket in
    let out = c.requires.pass.1.1 in
    let k = at_stage (Has ticket) (known_of pass.me.0) in (
      search rules,
      search rules,
      passes_on_for g.T.Kept.entries g.T.Kept.by g.T.Kept.name _ _ _ _ _ k ticket _ c.args.turn.value
          (put_back T E pass.me c.exchange-found.new.seat.me k c.args.turn.value out.0 c.exchange-found.ensures.3) refl refl
          (c.requires.name ∙ sym c.requires.pass.0.1) c.requires.history,
    )

pub returns : goal.returns
returns g c =
    let T = g.row.T.Denot in
    let E = g.row.T-Entry.Denot in
    let pass = c.args.pass.now.seat in
    let ticket = c.args.turn.ticket in
    let x = c.args.turn.value in
    let out = c.requires.pass.1.1 in
    let k = at_stage (Has ticket) (known_of pass.me.0) in
    let after : Same T E c.store.new.seat.me (ended g.T.Kept.entries x k ∷ [], []) =
    c.store.ensures.2 k x (put_back T E pass.me c.exchange-found.new.seat.me k x out.0 c.exchange-found.ensures.3) in
    let known = known_is T E c.store.new.seat.me (ended g.T.Kept.entries x k) [] after in
    record {
      pass = ((search rules, ap (λ j. j.name) known ∙ c.requires.pass.0.1), ready T E c.store.new.seat.me (ended g.T.Kept.entries x k) after);
      seen = known;
    }
