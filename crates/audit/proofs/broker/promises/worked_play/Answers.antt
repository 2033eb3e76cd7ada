use Rattle.audit.proofs.broker.WorkedPlays.{satisfied, expires, worked_lawful}
use Rattle.audit.proofs.broker.promises.worked_play.Goals as goal

pub returns-clause-satisfied : goal.returns-clause-satisfied
returns-clause-satisfied c = satisfied

pub returns-clause-expired : goal.returns-clause-expired
returns-clause-expired c = expires

pub returns-clause-lawful : goal.returns-clause-lawful
returns-clause-lawful c = worked_lawful
