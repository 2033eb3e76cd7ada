use Rattle.std.proofs.Common.{List, ap, subst, sym}
use Rattle.std.specs.Prelude.{is_some}
use Rattle.std.proofs.lemmas.Result.{on_ok_weaker}
use Rattle.shared_broker.specs.Sessions.{HasToldClock}
use Rattle.trace_file.specs.declared.line.Line.{Line}
use Rattle.trace_file.specs.declared.line.Line.TheVariants.{Clock}
use Rattle.trace_workers.specs.Workers.{HasDone, WorkerView}
use Rattle.trace_workers.proofs.Clocks.{tick_worker}
use Rattle.trace_workers.proofs.Workers.{done_foreign}
use Rattle.trace_workers.proofs.worker.Worker.tick.Goals as goal
use Rattle.trace_workers.proofs.worker.Worker.tick.Goals.{in-Some, in-None}

pub returns-clause-done : goal.returns-clause-done
returns-clause-done g c =
    let i = c.self.inside in
    let worker : WorkerView = record { number = i.number; worker_count = i.worker_count; sessions = i.sessions; clock = i.clock; is_stopped = i.is_stopped } in
    let broker = c.args.broker.now in
    let t = c.args.t in
    elim c.match-self.branch [
      | in-Some w ↦ rw (w.result-is, w.self-inside-is)
          (on_ok_weaker w.tick.result
          (λ (told : HasToldClock t w.in-Some.clock w.tick.new.pass) (before : List Line) (h : HasDone broker before c.args.self.now).
          tick_worker broker before t worker c.args.self.now w.in-Some.clock w.tick.new.pass c.self.view_is w.in-Some.is w.tick.ensures.stood.seen told h)
          w.tick.ensures.told)
      | in-None w ↦ rw (w.result-is, w.self-inside-is)
          (λ before h. done_foreign broker before (Clock t) worker c.self.invariant (ap is_some w.in-None.is) (subst (HasDone broker before) (sym c.self.view_is) h))
    ]
