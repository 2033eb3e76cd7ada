-- A history whose entries can be put into an empty log again, one after the other: each append is a batch as it is stamped at
-- its base offset, for which there was room, each fetch is one of a follower, in range, and each replica that was taken out lagged.
use Rattle.std.specs.Prelude.{ℕ, ◌+◌, ◌≡◌, ◌≤◌, List, length, take, drop, Some, slice_get, ⊤}
use Rattle.kbatch.specs.Batch.{IsBatch}
use Rattle.kbatch.specs.Stamp.{stamped}
use Rattle.kbatch.specs.declared.record.Record.{Record}
use Rattle.partlog.specs.declared.event.PartEvent.{PartEvent}
use Rattle.partlog.specs.declared.event.PartEvent.TheVariants.{Append, Follow, Look, Shrink}
use Rattle.partlog.specs.declared.part_log.TheConstants.{MOST_LOG_BYTES}
use Rattle.partlog.specs.Added.{bytes_of, log_end_of}
use Rattle.partlog.specs.Follower.{IsFollower}
use Rattle.partlog.specs.History.{History}
use Rattle.partlog.specs.Lagging.{LagsAt}

-- the bytes that an append at this place put into the log
abbrev pub put_at : History → ℕ → ℕ → List ℕ
put_at h place len = take len (drop (bytes_of (take place h.events)) h.log)

pub record IsPut (h : History) (place count len : ℕ) : Type 0 where
  pub batch : List ℕ
  pub records : List Record
  pub is : IsBatch batch records
  pub counted : count ≡ length records
  pub stands : put_at h place len ≡ stamped (log_end_of (take place h.events)) batch
  pub room : bytes_of (take place h.events) + len ≤ MOST_LOG_BYTES

abbrev pub CanPlay : History → ℕ → PartEvent → Type 0
CanPlay h place (Append by seq count len) = IsPut h place count len
CanPlay h place (Follow by seq replica offset t) = IsFollower replica h.followers × (offset ≤ log_end_of (take place h.events))
CanPlay h place (Look by seq) = ⊤
CanPlay h place (Shrink by replica t) = LagsAt h.followers (take place h.events) t replica

pub record IsPlayable (h : History) : Type 0 where
  pub each : (place : ℕ) (event : PartEvent) → slice_get h.events place ≡ Some event → CanPlay h place event
  pub whole : length h.log ≡ bytes_of h.events
