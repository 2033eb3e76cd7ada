use Rattle.std.proofs.Common.{◌≡◌, ◌∙◌, [], ◌∷◌, ◌++◌, ap, refl, sym, arith}
use Rattle.std.proofs.lemmas.List.Elements.{All-cons, All-nil}
use Rattle.outside.specs.declared.shared.clock.told_moment.ToldMoment.{ToldMoment}
use Rattle.outside.specs.shared.clock.Desk.{Desk}
use Rattle.outside.specs.shared.clock.Moments.{greatest, told_to}
use Rattle.outside.proofs.shared.clock.Greatest.{greatest_last}
use Rattle.outside.proofs.shared.clock.clock_desk.ClockDesk.tell.Goals as goal

pub returns-in_ok-push-clause-greatest : goal.returns-in_ok-push-clause-greatest
returns-in_ok-push-clause-greatest g c =
    let new : ToldMoment = record { moment = c.now-moment.result; by = c.args.by } in
    ap greatest c.in_ok-push.ensures.ok ∙ greatest_last c.self.inside.told new (omega (arith, c.self.invariant.0, c.self.invariant.1, c.now-moment.ensures.later))

pub invariant_of-self-then-moment-self : goal.invariant_of-self-then-moment-self
invariant_of-self-then-moment-self g c = (sym (returns-in_ok-push-clause-greatest g c), omega (arith, c.now-moment.ensures.given))

pub returns-in_ok-push-clause-added : goal.returns-in_ok-push-clause-added
returns-in_ok-push-clause-added g c =
    let new : ToldMoment = record { moment = c.now-moment.result; by = c.args.by } in (
      new ∷ [],
      c.in_ok-push.ensures.ok ∙ ap (λ (d : Desk g.row.C.Denot). d.told ++ new ∷ []) c.self.view_is,
      All-cons (λ (told : ToldMoment). told_to told ≡ c.args.by) new [] refl (All-nil (λ (told : ToldMoment). told_to told ≡ c.args.by)),
    )
