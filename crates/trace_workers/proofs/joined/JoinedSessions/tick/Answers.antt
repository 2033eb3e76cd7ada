use Rattle.std.proofs.Common.{◌∙◌, ◌+◌, ℕ, List, true, sym, ap, subst}
use Rattle.std.proofs.lemmas.Result.{on_ok_weaker}
use Rattle.shared_broker.specs.Sessions.{HasToldClock}
use Rattle.trace_file.specs.declared.line.Line.{Line}
use Rattle.trace_workers.specs.declared.joined.TheConstants.{DRAIN_STEP}
use Rattle.trace_workers.specs.Joined.{JoinedView, HasRun}
use Rattle.trace_workers.proofs.JoinedOn.{tick_run}
use Rattle.trace_workers.proofs.joined.JoinedSessions.tick.Goals as goal

pub returns-clause-run : goal.returns-clause-run
returns-clause-run g c =
    let i = c.self.inside in
    let joined : JoinedView = record { sessions = i.sessions; clock = i.clock } in
    let broker = c.args.broker.now in
    let t = c.later-t.result in
    let second = c.later-t.ensures.second ∙ ap (λ (n : ℕ). n + DRAIN_STEP) c.ticked.ensures in
    on_ok_weaker c.tick.result
    (λ (told : HasToldClock t i.clock c.tick.new.pass) (lines : List Line) (count : ℕ) (h : HasRun broker lines count true c.args.self.now).
    tick_run broker lines count t joined c.tick.new.pass c.tick.ensures.stood.seen told second (subst (HasRun broker lines count true) (sym c.self.view_is) h))
    c.tick.ensures.told
