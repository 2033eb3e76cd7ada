-- A transcript is begun or ended, and the clock is moved.
use Rattle.std.specs.Prelude.{◌≡◌, ℕ, ◌<◌, ◌≤◌, Bool, true, false, [], ◌∷◌, ◌++◌, Option, Some, None, length}
use Rattle.audit.specs.declared.account.SessionEnd.{SessionEnd}
use Rattle.audit.specs.declared.account.SessionEnd.TheVariants.{NoMemory}
use Rattle.audit.specs.declared.account.Transcript.{Transcript}
use Rattle.audit.specs.Histories.{calls_in}
use Rattle.partlog.specs.Moment.{moment_of}
use Rattle.audit.specs.broker.books.Told.{last_is_cut}
use Rattle.shared_broker.specs.Passes.{PassView}
use Rattle.shared_logs.specs.Coming.{HasStepped}
use Rattle.shared_logs.specs.Shared.{LogPassView}
use Rattle.shared_logs.specs.Shrinking.{HasPartlyTold, HasTold, NoPartLags}

-- one of this number goes on from the calls of those before
abbrev pub with_begun : PassView → ℕ → PassView
with_begun pass number = record pass { going = Some (record { number = number; first = length (calls_in pass.ended); calls = []; end = None }) }

-- the last call of the transcript that is going was cut off
abbrev pub is_cut_off : Option Transcript → Bool
is_cut_off None = false
is_cut_off (Some transcript) = last_is_cut transcript.calls

-- The open transcript is ended in this way, and comes after the others.
pub record HasEnded (end : SessionEnd) (old new : PassView) : Type 0 where
  pub transcript : Transcript
  pub going : old.going ≡ Some transcript
  pub new_is : new ≡ record old { ended = old.ended ++ record transcript { end = Some end } ∷ []; going = None }

-- where its last call was cut off, it ends because memory ran out
abbrev pub MayEnd : Option Transcript → SessionEnd → Type 0
MayEnd going end = is_cut_off going ≡ true → end ≡ NoMemory

-- The clock that the pass has seen is at this moment or past it. Where it was below, whoever lagged has left the in-sync set: no follower lags
-- in the histories that the pass has seen. The pass owes nothing of that.
pub record HasToldClock (t : ℕ) (old new : PassView) : Type 0 where
  pub between : LogPassView
  pub told : HasTold t old.logs between
  pub settled : HasStepped between new.logs
  pub reached : t ≤ moment_of new.logs.clock
  pub none_lags : moment_of told.told.found < t → NoPartLags t new.logs.parts
  pub else_as_before : new ≡ record old { logs = new.logs }

-- Memory ran out on the way: the clock may be at this moment, and some who lagged may have left. The pass owes nothing of that either.
pub record HasPartlyToldClock (t : ℕ) (old new : PassView) : Type 0 where
  pub between : LogPassView
  pub told : HasPartlyTold t old.logs between
  pub settled : HasStepped between new.logs
  pub else_as_before : new ≡ record old { logs = new.logs }
