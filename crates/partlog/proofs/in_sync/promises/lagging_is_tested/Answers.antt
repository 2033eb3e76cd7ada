use Rattle.std.proofs.Common.{cond, false, ap, sym, refl, ◌∙◌}
use Rattle.partlog.specs.in_sync.Lagging.{lags}
use Rattle.partlog.proofs.in_sync.Kept.{tested, untested}
use Rattle.partlog.proofs.in_sync.Leaving.{lags-left, lags-true, true-lags}
use Rattle.partlog.proofs.in_sync.promises.lagging_is_tested.Goals as goal

pub returns-clause-agrees : goal.returns-clause-agrees
returns-clause-agrees c = λ followers events t replica is. (true-lags followers events t replica is, lags-true followers events t replica)

pub returns-clause-left : goal.returns-clause-left
returns-clause-left c = λ followers events replica at t.
    lags-left followers events replica at t replica ∙ ap (λ b. cond b false (lags followers events t replica)) (tested replica replica refl)

pub returns-clause-others : goal.returns-clause-others
returns-clause-others c = λ followers events left at t replica apart.
    lags-left followers events left at t replica ∙ ap (λ b. cond b false (lags followers events t replica)) (untested left replica (λ e. apart (sym e)))
