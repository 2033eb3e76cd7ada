use Rattle.std.proofs.Common.{◌∙◌, ◌++◌, [], ◌∷◌, List, ap, arith, sym}
use Rattle.std.proofs.lemmas.List.FromFn.{map-range_with_len_more}
use Rattle.trace_workers.specs.Workers.{WorkerView}
use Rattle.trace_workers.specs.Dealing.{empty_worker}
use Rattle.trace_workers.proofs.dealing.empty_workers.Goals as goal

pub loop-number-preserved : goal.loop-number-preserved
loop-number-preserved c =
    let number = c.loop-number.number in
    let worker_count = c.args.worker_count in
    c.in_ok-push.ensures.ok
    ∙ ap (λ (worker : WorkerView). c.loop-number.workers ++ worker ∷ []) c.empty_worker.ensures
    ∙ ap (λ (workers : List WorkerView). workers ++ empty_worker worker_count number ∷ []) c.loop-number.invariant
    ∙ sym (map-range_with_len_more (empty_worker worker_count) 0 number number (omega arith))
