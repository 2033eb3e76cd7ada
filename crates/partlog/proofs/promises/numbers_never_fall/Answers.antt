use Rattle.partlog.proofs.Growing.{moment-grows, numbers-grow, numbers-grow-along}
use Rattle.partlog.proofs.promises.numbers_never_fall.Goals as goal

pub returns-clause-grown : goal.returns-clause-grown
returns-clause-grown c = numbers-grow

pub returns-clause-along : goal.returns-clause-along
returns-clause-along c = numbers-grow-along

pub returns-clause-moment : goal.returns-clause-moment
returns-clause-moment c = moment-grows
