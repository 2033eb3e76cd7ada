use Rattle.partlog.proofs.Earlier.{readable-now, readable-before}
use Rattle.partlog.proofs.promises.visible_is_readable.Goals as goal

pub returns-clause-now : goal.returns-clause-now
returns-clause-now c = readable-now

pub returns-clause-before : goal.returns-clause-before
returns-clause-before c = readable-before
