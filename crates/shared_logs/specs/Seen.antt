-- What is so of a pass between any two calls.
use Rattle.std.specs.Prelude.{◌≡◌, ℕ, ◌∷◌, All, Contains, map}
use Rattle.std.specs.List.Sorted.{IsStrictlyIncreasing}
use Rattle.partlog.specs.Kept.{IsKept}
use Rattle.audit.specs.Histories.{ticks_of}
use Rattle.room_core.specs.Gauges.{IsPass}
use Rattle.room_table.specs.Seats.{caller_now}
use Rattle.audit.specs.broker.Board.{history_at}
use Rattle.audit.specs.broker.GoesOn.{AllWhole}
use Rattle.purgatory.specs.Going.{IsAtRest}
use Rattle.shared_logs.specs.Shared.{AreShared, LogPassView, followers_in}

-- It is a pass of the room, and its operation is over or waits. What it saw of the histories is whole: one for each partition, with its
-- followers, whose log is the bytes of its appends; and a clock whose ticks rise. The ticks that it added rise, and are among those.
pub record HasSeen (pass : LogPassView) : Type 0 where
  pub shared : AreShared pass.made
  pub seat : pass.seat.table ≡ pass.made.room.table
  pub number : pass.seat.pass ≡ pass.number
  pub there : IsPass pass.made.room.table.shape pass.number
  pub rests : IsAtRest (caller_now pass.seat).stage
  pub whole : AllWhole pass.parts
  pub kept : (part : ℕ) → IsKept (history_at pass.parts part).log (history_at pass.parts part).events
  pub followers : map (λ h. h.followers) pass.parts ≡ followers_in pass.made
  pub ticks : IsStrictlyIncreasing (0 ∷ ticks_of pass.clock)
  pub rising : IsStrictlyIncreasing (0 ∷ pass.ticked)
  pub ticked : All (Contains (ticks_of pass.clock)) pass.ticked
