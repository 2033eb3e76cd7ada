use Rattle.audit.proofs.WorkedCalls.{expired_lawful, parked_lawful, cut_lawful, satisfied_lawful, satisfied_cut_lawful, astray_unlawful, unwon_unlawful, late_unlawful, early_unlawful}
use Rattle.audit.proofs.WorkedProduces.{replicated_lawful, alone_unlawful}
use Rattle.audit.proofs.promises.worked_calls.Goals as goal

pub returns-clause-expired : goal.returns-clause-expired
returns-clause-expired c = expired_lawful

pub returns-clause-parked : goal.returns-clause-parked
returns-clause-parked c = parked_lawful

pub returns-clause-cut : goal.returns-clause-cut
returns-clause-cut c = cut_lawful

pub returns-clause-satisfied : goal.returns-clause-satisfied
returns-clause-satisfied c = satisfied_lawful

pub returns-clause-astray : goal.returns-clause-astray
returns-clause-astray c = astray_unlawful

pub returns-clause-overdue : goal.returns-clause-overdue
returns-clause-overdue c = late_unlawful

pub returns-clause-early : goal.returns-clause-early
returns-clause-early c = early_unlawful

pub returns-clause-satisfied_cut : goal.returns-clause-satisfied_cut
returns-clause-satisfied_cut c = satisfied_cut_lawful

pub returns-clause-replicated : goal.returns-clause-replicated
returns-clause-replicated c = λ plain batch all one is_batch is. replicated_lawful plain batch one is_batch all is

pub returns-clause-unwon : goal.returns-clause-unwon
returns-clause-unwon c = unwon_unlawful

pub returns-clause-alone : goal.returns-clause-alone
returns-clause-alone c = λ plain batch all one is_batch is. alone_unlawful plain batch one is_batch all is
