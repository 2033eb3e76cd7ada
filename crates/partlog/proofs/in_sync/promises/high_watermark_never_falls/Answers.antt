use Rattle.partlog.proofs.in_sync.History.{high-grows, high-within}
use Rattle.partlog.proofs.in_sync.promises.high_watermark_never_falls.Goals as goal

pub returns-clause-grown : goal.returns-clause-grown
returns-clause-grown c = high-grows

pub returns-clause-within : goal.returns-clause-within
returns-clause-within c = high-within
