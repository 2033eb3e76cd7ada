use Rattle.std.proofs.Common.{ap, subst}
use Rattle.room_table.specs.declared.part.CallerStep.TheVariants.{Read}
use Rattle.purgatory.specs.Rooms.{PassView}
use Rattle.purgatory.proofs.Laws.{one_step}
use Rattle.shared_logs.specs.Coming.{HasStepped}
use Rattle.shared_logs.specs.Locked.{pass_view}
use Rattle.shared_logs.specs.Shared.{LogPassView}
use Rattle.shared_logs.proofs.Steps.{stepped}
use Rattle.shared_logs.proofs.logs.SharedLogs.gauge.Goals as goal

pub returns-clause-stepped : goal.returns-clause-stepped
returns-clause-stepped c =
    let p = c.pass.inside in
    let after = c.gauge.new.pass in
    let step = c.gauge.ensures.step in
    let went = one_step p.room.seat after.seat (Read c.args.gauge c.gauge.result) (ap (λ (v : PassView). v.seat) step) in
    subst (λ (v : LogPassView). HasStepped v (pass_view p.number after p.parts.items p.clock)) c.pass.view_is
    (stepped p.number p.room after p.parts.items p.clock went (ap (λ (v : PassView). v.locks) step))
