use Rattle.std.proofs.Common.{refl}
use Rattle.audit.proofs.broker.books.WorkedWaits.{cut, expired, parked, three_lawful, three_together}
use Rattle.audit.proofs.broker.books.worked_waits.Goals as goal

pub returns-clause-expired : goal.returns-clause-expired
returns-clause-expired c = expired

pub returns-clause-parked : goal.returns-clause-parked
returns-clause-parked c = parked

pub returns-clause-cut : goal.returns-clause-cut
returns-clause-cut c = cut

pub returns-clause-together : goal.returns-clause-together
returns-clause-together c = three_together

pub returns-clause-same : goal.returns-clause-same
returns-clause-same c one both = refl

pub returns-clause-lawful : goal.returns-clause-lawful
returns-clause-lawful c = three_lawful
