use Rattle.partlog.proofs.in_sync.History.{all-in-sync, high-of-all, count-of-all}
use Rattle.partlog.proofs.in_sync.promises.nobody_left.Goals as goal

pub returns-clause-in_sync : goal.returns-clause-in_sync
returns-clause-in_sync c = all-in-sync

pub returns-clause-high_watermark : goal.returns-clause-high_watermark
returns-clause-high_watermark c = high-of-all

pub returns-clause-count : goal.returns-clause-count
returns-clause-count c = count-of-all
