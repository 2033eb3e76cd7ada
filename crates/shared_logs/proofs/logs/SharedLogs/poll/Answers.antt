use Rattle.std.proofs.Common.{ap, subst, sym, ◌∙◌}
use Rattle.shared_logs.specs.Coming.{HasStepped}
use Rattle.shared_logs.specs.Locked.{pass_view}
use Rattle.shared_logs.specs.Shared.{LogPassView}
use Rattle.shared_logs.proofs.Passes.{of_room}
use Rattle.shared_logs.proofs.Steps.{polled_goes, stepped}
use Rattle.shared_logs.proofs.logs.SharedLogs.poll.Goals as goal

pub returns-clause-stepped : goal.returns-clause-stepped
returns-clause-stepped c =
    let p = c.pass.inside in
    let s = c.self.inside in
    let after = c.poll.new.pass in
    let made = ap (λ (v : LogPassView). v.made) c.pass.view_is ∙ c.requires.made ∙ sym c.self.view_is in
    let was = of_room p.number p.room p.parts.items p.clock p.moment p.ticked c.pass.invariant s.room s.parts.items s.clock made in
    subst (λ (v : LogPassView). HasStepped v (pass_view p.number after p.parts.items p.clock)) c.pass.view_is
    (stepped p.number p.room after p.parts.items p.clock (polled_goes c.poll.result p.room.seat after.seat c.poll.ensures.step) (c.poll.ensures.made.locks ∙ sym was.locks))
