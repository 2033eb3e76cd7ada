-- A pass told the clock a moment, and settled.
use Rattle.std.proofs.Common.{◌≤◌, ◌∙◌, ℕ, List, refl, subst, sym}
use Rattle.partlog.specs.declared.clock_event.ClockEvent.{ClockEvent}
use Rattle.partlog.specs.Moment.{moment_of}
use Rattle.shared_broker.specs.Passes.{PassView}
use Rattle.shared_broker.specs.Sessions.{HasPartlyToldClock, HasToldClock}
use Rattle.shared_logs.specs.Coming.{HasStepped}
use Rattle.shared_logs.specs.Shared.{LogPassView}
use Rattle.shared_logs.specs.Shrinking.{HasPartlyTold, HasTold, NoPartLags}

module _ (t : ℕ) (old : PassView) (between new : LogPassView) (settled : HasStepped between new) where
  pub told_clock : HasTold t old.logs between → HasToldClock t old (record old { logs = new })
  told_clock told = record {
    between = between;
    told = told;
    settled = settled;
    reached = subst (λ (c : List ClockEvent). t ≤ moment_of c) (sym (settled.clock ∙ told.shrunk.clock)) told.told.reached;
    none_lags = λ less. subst (NoPartLags t) (sym settled.parts) (told.none_lags less);
    else_as_before = refl;
  }

  pub partly_told : HasPartlyTold t old.logs between → HasPartlyToldClock t old (record old { logs = new })
  partly_told told = record { between = between; told = told; settled = settled; else_as_before = refl }
