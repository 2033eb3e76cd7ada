use Rattle.std.proofs.Common.{◌≡◌, ◌∙◌, ap, subst, sym}
use Rattle.std.specs.Prelude.{All}
use Rattle.atomic_table.specs.Seated.{TableId}
use Rattle.turn_lock.specs.declared.pass.TurnPass.{TurnPass}
use Rattle.turn_lock.specs.Locks.{known}
use Rattle.turn_lock.specs.OfPass.{of_pass}
use Rattle.outside.specs.declared.shared.clock.told_moment.ToldMoment.{ToldMoment}
use Rattle.outside.specs.shared.clock.ClockViews.{ClockView, PassView}
use Rattle.outside.specs.shared.clock.Desk.{Desk}
use Rattle.outside.specs.shared.clock.Moments.{told_to}
use Rattle.outside.proofs.shared.clock.Closing.{keys_length, keys_ready, told_below}
use Rattle.outside.proofs.shared.clock.shared.Shared.close.Goals as goal

pub close-requires-clause-all : goal.close-requires-clause-all
close-requires-clause-all g c = keys_length c.args.passes c.in_ok-keys.keys c.in_ok-keys.ensures ∙ c.requires.all ∙ sym (ap (λ (v : ClockView). v.passes) c.self.view_is)

pub close-requires-clause-each : goal.close-requires-clause-each
close-requires-clause-each g c =
    let made = subst (λ (id : TableId). All (λ (pass : PassView). pass.made ≡ id) c.args.passes) (sym (ap (λ (v : ClockView). v.id) c.self.view_is)) c.requires.each in
    keys_ready c.self.inside.lock c.args.passes c.in_ok-keys.keys made c.in_ok-keys.ensures

pub returns : goal.returns
returns g c =
    let log = c.close.result.told in
    let own = λ (key : TurnPass (Desk g.row.C.Denot) ToldMoment). of_pass told_to (known key).number log ≡ (known key).mine in
    record { told = told_below own log (g.C.Clock.moment c.into_clock.result) c.into_clock.ensures c.args.passes c.in_ok-keys.keys c.in_ok-keys.ensures c.close.ensures.each }
