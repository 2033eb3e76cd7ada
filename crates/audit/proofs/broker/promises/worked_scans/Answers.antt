use Rattle.std.proofs.Common.{refl}
use Rattle.audit.proofs.broker.promises.worked_scans.Goals as goal

pub returns-clause-waits : goal.returns-clause-waits
returns-clause-waits c all batch = refl

pub returns-clause-early : goal.returns-clause-early
returns-clause-early c all batch = refl

pub returns-clause-satisfied : goal.returns-clause-satisfied
returns-clause-satisfied c all batch = refl

pub returns-clause-expired : goal.returns-clause-expired
returns-clause-expired c all batch = refl

pub returns-clause-both : goal.returns-clause-both
returns-clause-both c all batch = refl

pub returns-clause-once : goal.returns-clause-once
returns-clause-once c all batch = refl
