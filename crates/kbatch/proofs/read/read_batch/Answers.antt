use Rattle.std.proofs.Common.{Err, refl, ap, ◌∙◌}
use Rattle.std.proofs.lemmas.Result.{err_from_is_err_and}
use Rattle.kbatch.proofs.Faults.{batch_none, refuses}
use Rattle.kbatch.proofs.read.read_batch.Goals as goal

pub returns-in_err-batch-clause-only : goal.returns-in_err-batch-clause-only
returns-in_err-batch-clause-only c records is =
    let first = (c.in_err-batch.ensures.fault c.in_err-batch.field-0.0).0 refl in
    absurd (batch_none c.args.bytes.now records is c.in_err-batch.field-0.0 first.0)

pub returns-in_err-batch-clause-fault : goal.returns-in_err-batch-clause-fault
returns-in_err-batch-clause-fault c f not_memory =
    let p = err_from_is_err_and c.from_residual.result c.from_residual.ensures.1 in
    let first = (c.in_err-batch.ensures.fault c.in_err-batch.field-0.0).0 refl in
    refuses c.args.bytes.now c.from_residual.result c.in_err-batch.field-0.0 f first (p.1 ∙ ap (λ e. Err e) p.2)
