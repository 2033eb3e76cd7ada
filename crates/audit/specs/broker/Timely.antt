-- What a pass's own entries have to do with the clock: it takes a follower out at a moment that the clock was told, and a follower that
-- fetches does so at 0 or at such a moment, which is no earlier than any that an earlier call of the pass saw.
use Rattle.std.specs.Prelude.{ℕ, ℤ, ◌≡◌, ◌<◌, Contains, List, Some, slice_get}
use Rattle.partlog.specs.declared.event.PartEvent.{PartEvent}
use Rattle.partlog.specs.declared.event.PartEvent.TheVariants.{Append, Follow, Look, Shrink}
use Rattle.partlog.specs.declared.clock_event.ClockEvent.{ClockEvent}
use Rattle.partlog.specs.History.{History}
use Rattle.audit.specs.declared.account.Point.{Point}
use Rattle.audit.specs.Histories.{AreNotLater, IsToldMoment, ticks_of}
use Rattle.audit.specs.broker.Board.{history_at}

-- the entries of one partition
abbrev pub events_at : List History → ℕ → List PartEvent
events_at parts part = (history_at parts part).events

-- the pass that left an entry
abbrev pub pass_of : PartEvent → ℕ
pass_of (Append by seq count len) = by
pass_of (Follow by seq replica offset t) = by
pass_of (Look by seq) = by
pass_of (Shrink by replica t) = by

-- the pass of this number, with the points of its calls, one list a call
pub record IsTimely (number : ℕ) (parts : List History) (clock : List ClockEvent) (rows : List (List Point)) : Type 0 where
  -- it took a follower out at a moment that the clock was told
  pub shrinks : (part place t : ℕ) (replica : ℤ) → slice_get (events_at parts part) place ≡ Some (Shrink number replica t)
      → Contains (ticks_of clock) t
  -- a follower that fetched by it did so at such a moment, or at 0
  pub told : (part place seq offset t : ℕ) (replica : ℤ) → slice_get (events_at parts part) place ≡ Some (Follow number seq replica offset t)
      → IsToldMoment clock t
  -- and no earlier than its earlier calls saw the clock
  pub late : (part place seq offset t : ℕ) (replica : ℤ) → slice_get (events_at parts part) place ≡ Some (Follow number seq replica offset t)
      → (earlier : ℕ) (points : List Point) → earlier < seq → slice_get rows earlier ≡ Some points → AreNotLater clock t points
