-- Who waits for what. The operation of a session watches gauges, with a generation of its own, and has a deadline in milliseconds.
use Rattle.std.specs.Prelude.{◌≡◌, ℕ, ◌≤◌, ◌/◌, ◌%◌, List, [], Option, Some, slice_index, slice_index_or}
use Rattle.watch_lists.specs.Watches.{Watches, IsListed}
use Rattle.timing_wheel.specs.Timers.{Timers, deadline_of}
use Rattle.lone_broker.specs.index.Sessions.{Has}

pub record Index : Type 0 where
  -- who watches which gauge: every sixteenth gauge stands in one shard
  pub shards : List Watches
  -- the moment, and the deadlines that are still to come
  pub timers : Timers
  -- the generation at which each session waits, 0 where it doesn't
  pub live : List ℕ
  -- the greatest generation at which each session has waited
  pub last : List ℕ
  -- the sessions that may have become answerable since they were looked at
  pub suspects : ℕ

-- the shard of a gauge
abbrev pub shard_of : List Watches → ℕ → Watches
shard_of shards gauge = slice_index_or shards (gauge % 16) (record { ids = 0; rows = [] })

-- the session is listed under the gauge with this generation
unfoldable pub IsWatching : List Watches → ℕ → ℕ → ℕ → Type 0
IsWatching shards gauge session generation = IsListed (shard_of shards gauge) (gauge / 16) session generation

-- the moment, in milliseconds
abbrev pub moment_of : Index → ℕ
moment_of index = index.timers.moment

-- the generation at which the session waits, 0 where it doesn't
abbrev pub generation_of : Index → ℕ → ℕ
generation_of index session = slice_index index.live session

-- the greatest generation at which the session has waited, 0 where it never did
abbrev pub last_of : Index → ℕ → ℕ
last_of index session = slice_index index.last session

-- the session waits for the gauge
abbrev pub WaitsFor : Index → ℕ → ℕ → Type 0
WaitsFor index session gauge = IsWatching index.shards gauge session (generation_of index session)

-- the deadline of the session, where it waits and the deadline is past the moment
abbrev pub coming_of : Index → ℕ → Option ℕ
coming_of index session = deadline_of index.timers session

-- the session waits, with a deadline that is past the moment and at most t
abbrev pub ComesBy : ℕ → Index → ℕ → Type 0
ComesBy t index session = (deadline : ℕ) × (coming_of index session ≡ Some deadline) × (deadline ≤ t)

-- the session may have become answerable since it was looked at
abbrev pub IsSuspect : Index → ℕ → Type 0
IsSuspect index session = Has index.suspects session
