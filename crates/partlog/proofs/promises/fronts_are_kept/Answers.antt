use Rattle.partlog.proofs.Earlier.{kept-front}
use Rattle.partlog.proofs.promises.fronts_are_kept.Goals as goal

pub returns : goal.returns
returns c = kept-front
