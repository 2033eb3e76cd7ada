use Rattle.std.proofs.Common.{arith, get_or}
use Rattle.std.proofs.lemmas.List.Elements.{All-set}
use Rattle.trace_workers.specs.Workers.{AllKeep}
use Rattle.trace_workers.proofs.Working.{worker_keeps}
use Rattle.trace_workers.proofs.runs.work_given.Goals as goal

pub returns-then-workers-eq1-clause-kept : goal.returns-then-workers-eq1-clause-kept
returns-then-workers-eq1-clause-kept g c keeps all =
    let before = c.args.workers.now in
    let first = c.index-workers-0.result in
    let after = c.work_given.new.self in
    All-set (AllKeep keeps) before 0 after (worker_keeps keeps (get_or before 0 first) after c.work_given.ensures.same (all 0 first (omega (arith, c.requires.some)))) all
