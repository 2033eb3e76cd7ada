-- Entries of which the replicas can be told, one after the other.
use Rattle.std.specs.Prelude.{ℕ, ◌+◌, ◌^◌, ◌≡◌, ◌<◌, ◌≤◌, ⊤, ℤ, List, length, take, Some, slice_get}
use Rattle.partlog.specs.in_sync.Standings.{Standings}
use Rattle.partlog.specs.declared.event.PartEvent.{PartEvent}
use Rattle.partlog.specs.declared.event.PartEvent.TheVariants.{Append, Follow, Look, Shrink}
use Rattle.partlog.specs.Added.{log_end_of}
use Rattle.partlog.specs.Follower.{IsFollower}

-- the log end is a number of 63 bits, and each fetch is a follower's, from an offset that isn't above the log end as it came
pub record IsTrackable (followers : ℕ) (events : List PartEvent) : Type 0 where
  pub short : log_end_of events < 2 ^ 63
  pub fetches : (place by seq offset t : ℕ) (replica : ℤ) → slice_get events place ≡ Some (Follow by seq replica offset t)
      → IsFollower replica followers × (offset ≤ log_end_of (take place events))

-- the same of one entry, as the replicas stand before it
abbrev pub CanEnter : Standings → PartEvent → Type 0
CanEnter standings (Append by seq count len) = standings.log_end + count < 2 ^ 63
CanEnter standings (Follow by seq replica offset t) = IsFollower replica (length standings.followers) × (offset ≤ standings.log_end)
CanEnter standings (Look by seq) = ⊤
CanEnter standings (Shrink by replica t) = ⊤
