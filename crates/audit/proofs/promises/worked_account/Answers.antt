use Rattle.audit.proofs.WorkedAccounts.{waits_lawful, miscounted}
use Rattle.audit.proofs.promises.worked_account.Goals as goal

pub returns-clause-lawful : goal.returns-clause-lawful
returns-clause-lawful c = waits_lawful

pub returns-clause-miscounted : goal.returns-clause-miscounted
returns-clause-miscounted c = miscounted
