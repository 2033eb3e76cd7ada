use Rattle.audit.proofs.broker.books.Winning.{won_all, won_amid, won_begun, won_ended}
use Rattle.audit.proofs.broker.books.winners_are_counted.Goals as goal

pub returns-clause-amid : goal.returns-clause-amid
returns-clause-amid c = won_amid

pub returns-clause-begun : goal.returns-clause-begun
returns-clause-begun c = won_begun

pub returns-clause-ended : goal.returns-clause-ended
returns-clause-ended c = won_ended

pub returns-clause-all : goal.returns-clause-all
returns-clause-all c = won_all
