-- The timers of a clock's listing.
use Rattle.std.specs.Prelude.{◌≡◌, ℕ, ◌+◌, ◌<◌, ◌≤◌, min, Option, Some, None}
use Rattle.room_core.specs.declared.parts.Entry.{Entry}

-- the farthest deadline ahead that the wheels take, in milliseconds: 2^31 - 1
abbrev pub farthest : ℕ
farthest = 2147483647

-- the timer of a deadline that is put at this moment: at the deadline, or, where that lies farther ahead, as far ahead as the wheels take it
abbrev pub IsPutAt : ℕ → ℕ → Option ℕ → Type 0
IsPutAt moment deadline None = deadline ≤ moment
IsPutAt moment deadline (Some timer) = timer ≡ min deadline (moment + farthest)

-- A pass's timer stays if it comes no later than the deadline of the pass's next operation. Else that deadline gets one.
pub record StaysOrIsPut (moment deadline : ℕ) (before after : Option ℕ) : Type 0 where
  pub stays : (timer : ℕ) → before ≡ Some timer → timer ≤ deadline → after ≡ before
  pub put : ((timer : ℕ) → before ≡ Some timer → deadline < timer) → IsPutAt moment deadline after

-- A timer that doesn't miss a deadline: it comes later than this moment, and no later than the deadline. One that comes earlier is put
-- again when it has come out: that of a far deadline, or one that was put for an earlier operation of the pass.
pub record IsTimerOf (moment deadline timer : ℕ) : Type 0 where
  pub later : moment < timer
  pub in_time : timer ≤ deadline

-- a deadline has a timer exactly where it is past the moment
abbrev pub HasTimer : ℕ → ℕ → Option ℕ → Type 0
HasTimer moment deadline None = deadline ≤ moment
HasTimer moment deadline (Some timer) = IsTimerOf moment deadline timer

-- so has the deadline of an entry, and where there is no entry there is no timer
abbrev pub IsTimed : ℕ → Option Entry → Option ℕ → Type 0
IsTimed moment None timer = timer ≡ None
IsTimed moment (Some entry) timer = HasTimer moment entry.deadline timer
