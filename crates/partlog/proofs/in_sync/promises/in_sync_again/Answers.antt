use Rattle.std.proofs.Common.{arith}
use Rattle.partlog.proofs.in_sync.History.{back-from, high-within}
use Rattle.partlog.proofs.in_sync.promises.in_sync_again.Goals as goal

pub returns-clause-from_log_end : goal.returns-clause-from_log_end
returns-clause-from_log_end c = λ followers events replica offset t far. back-from followers events replica offset t (omega (arith, far, high-within followers events))
