use Rattle.std.proofs.Common.{◌++◌, List, subst}
use Rattle.std.specs.Prelude.{OnOk}
use Rattle.trace_file.specs.declared.line.Line.{Line}
use Rattle.trace_workers.specs.Workers.{HasDone}
use Rattle.trace_workers.proofs.worker.Worker.tick_after.Goals as goal

pub returns-in-Some-clause-done : goal.returns-in-Some-clause-done
returns-in-Some-clause-done g c =
    let broker = c.args.broker.now in
    let old = c.args.self.now in
    subst (λ (lines : List Line). OnOk c.line.result ((before : List Line) → HasDone broker before old → HasDone broker (before ++ lines) c.line.new.self)) c.in-Some.ensures.is c.line.ensures.done
