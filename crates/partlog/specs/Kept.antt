-- What holds of every log: it is the bytes of its Appends and nothing after them, and each of these has more bytes than
-- records, of which it has one at least.
use Rattle.std.specs.Prelude.{◌≡◌, ℕ, ◌<◌, ◌≤◌, List, length, All, ⊤}
use Rattle.partlog.specs.declared.event.PartEvent.{PartEvent}
use Rattle.partlog.specs.declared.event.PartEvent.TheVariants.{Append, Follow, Look, Shrink}
use Rattle.partlog.specs.declared.part_log.TheConstants.{MOST_LOG_BYTES}
use Rattle.partlog.specs.Added.{bytes_of}

abbrev pub IsDense : PartEvent → Type 0
IsDense (Append by seq count len) = (0 < count) × (count < len)
IsDense (Follow by seq replica offset t) = ⊤
IsDense (Look by seq) = ⊤
IsDense (Shrink by replica t) = ⊤

pub record IsKept (log : List ℕ) (events : List PartEvent) : Type 0 where
  pub whole : bytes_of events ≡ length log
  pub bounded : length log ≤ MOST_LOG_BYTES
  pub dense : All IsDense events
