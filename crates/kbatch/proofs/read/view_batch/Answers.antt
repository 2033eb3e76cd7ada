use Rattle.std.proofs.Common.{Err, refl, ap, ◌∙◌}
use Rattle.std.proofs.lemmas.Result.{err_from_is_err_and}
use Rattle.kbatch.proofs.Faults.{batch_none, refuses, takes, none_of_ok}
use Rattle.kbatch.proofs.read.view_batch.Goals as goal

pub returns-in_err-check-clause-only : goal.returns-in_err-check-clause-only
returns-in_err-check-clause-only c records is = absurd (batch_none c.args.bytes.now records is c.in_err-check.field-0.0 c.in_err-check.ensures.fault.0)

pub returns-in_err-check-clause-fault : goal.returns-in_err-check-clause-fault
returns-in_err-check-clause-fault c f =
    let p = err_from_is_err_and c.from_residual.result c.from_residual.ensures.1 in
    refuses c.args.bytes.now c.from_residual.result c.in_err-check.field-0.0 f c.in_err-check.ensures.fault (p.1 ∙ ap (λ e. Err e) p.2)

pub returns-clause-fault : goal.returns-clause-fault
returns-clause-fault c f =
    let b = c.in_ok-check.ensures.batch in
    takes c.args.bytes.now b.0 _ f b.1 (none_of_ok c.whole.result _ f refl)
