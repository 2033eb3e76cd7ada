-- What an index keeps between any two calls.
use Rattle.std.specs.Prelude.{◌≡◌, ℕ, ◌≤◌, List, [], Some, length, slice_index}
use Rattle.watch_lists.specs.Watches.{Watches}
use Rattle.timing_wheel.specs.Timers.{Timers, deadline_of, ids_of}
use Rattle.timing_wheel.specs.DueList.{DueList}
use Rattle.lone_broker.specs.declared.index.session_set.TheConstants.{SESSIONS}
use Rattle.lone_broker.specs.index.Sessions.{Has}
use Rattle.lone_broker.specs.index.Index.{IsWatching}

-- A session is listed with generations from 1 to the greatest at which it has waited. The list of due sessions
-- is empty, and has room for all.
pub record IsIndex (shards : List Watches) (timers : Timers) (due : DueList) (live last : List ℕ) : Type 0 where
  pub live_each : length live ≡ SESSIONS
  pub last_each : length last ≡ SESSIONS
  pub timer_each : ids_of timers ≡ SESSIONS
  pub none_due : due.ids ≡ []
  pub room : due.room ≡ SESSIONS
  pub listed : (gauge session generation : ℕ) → IsWatching shards gauge session generation
      → (1 ≤ generation) × (generation ≤ slice_index last session)

-- who has a deadline to come, or is a suspect, waits
pub record AreWaiting (timers : Timers) (live : List ℕ) (suspects : ℕ) : Type 0 where
  pub coming : (session deadline : ℕ) → deadline_of timers session ≡ Some deadline → 1 ≤ slice_index live session
  pub suspected : (session : ℕ) → Has suspects session → 1 ≤ slice_index live session
