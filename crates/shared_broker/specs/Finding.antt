-- What `find` answers: a range of a partition's log.
use Rattle.std.specs.Prelude.{ℕ, ◌≡◌, List, [], Option, Some, None, drop, slice_get, take}
use Rattle.audit.specs.declared.account.Account.{Account}
use Rattle.audit.specs.declared.account.PartAccount.{PartAccount}
use Rattle.audit.specs.broker.Board.{history_at}
use Rattle.audit.specs.broker.GoesOn.{Carried}
use Rattle.kwire.specs.Configuration.{part_of}
use Rattle.partlog.specs.Start.{start_of}
use Rattle.partlog.specs.State.{state_of}
use Rattle.shared_broker.specs.declared.finding.LogRange.{LogRange}
use Rattle.shared_broker.specs.declared.finding.Sought.{Sought}
use Rattle.shared_broker.specs.Passes.{PassView}
use Rattle.shared_logs.specs.Coming as logs
use Rattle.shared_logs.specs.Sought.{StandAt}

-- the bytes of a partition's log, or none if there is no such partition
abbrev pub log_in : Option PartAccount → List ℕ
log_in None = []
log_in (Some part) = part.log

abbrev pub bytes_at : Account → LogRange → List ℕ
bytes_at account range = take range.size (drop range.start (log_in (slice_get account.parts range.part)))

-- The records stand in this range in every account that goes on from what the pass has seen; or there is no such partition, or they don't stand
-- there in what the pass has seen.
abbrev pub HasSought : Sought → Option LogRange → PassView → Type 0
HasSought sought (Some range) pass =
    (part_of pass.config sought.topic.now sought.index ≡ Some range.part)
    × Carried pass.config pass.logs.parts pass.logs.clock (λ account. bytes_at account range ≡ sought.records.now)
HasSought sought None pass =
    (part : ℕ) → part_of pass.config sought.topic.now sought.index ≡ Some part
    → StandAt (history_at pass.logs.parts part).log (start_of sought.offset (state_of (history_at pass.logs.parts part))) sought.records.now → ⊥

-- the pass saw what others did, and did nothing
pub record HasCaughtUp (old new : PassView) : Type 0 where
  pub logs : logs.HasCaughtUp old.logs new.logs
  pub seat : new.logs.seat ≡ old.logs.seat
  pub rest : new ≡ record old { logs = new.logs }
