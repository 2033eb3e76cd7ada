-- What a call leaves of what a session waits for, and what it begins.
use Rattle.std.specs.Prelude.{◌≡◌, ℕ, ◌≤◌, ◌<◌, ◌↔◌, List, Any, Some, None}
use Rattle.opcond.specs.declared.need.Need.{Need}
use Rattle.opcond.specs.Operation.{Operation}
use Rattle.lone_broker.specs.index.Index.{Index, WaitsFor, coming_of, generation_of, last_of, moment_of}

-- one of the needs is of the gauge
abbrev pub Names : List Need → ℕ → Type 0
Names needs gauge = Any (λ need. need.gauge ≡ gauge) needs

-- the session watches the same gauges, with the same generation
pub record WatchesOn (old new : Index) (session : ℕ) : Type 0 where
  pub generation : generation_of new session ≡ generation_of old session
  pub last : last_of new session ≡ last_of old session
  pub gauges : (gauge : ℕ) → WaitsFor new session gauge ↔ WaitsFor old session gauge

-- the session waits as before: it watches the same gauges, and the same deadline is to come, or none
pub record WaitsOn (old new : Index) (session : ℕ) : Type 0 where
  pub watches : WatchesOn old new session
  pub coming : coming_of new session ≡ coming_of old session

-- the session waits for the gauges and the deadline of the operation, and for nothing else, with the generation of this number
pub record WaitsWith (new : Index) (session number : ℕ) (op : Operation) : Type 0 where
  pub generation : generation_of new session ≡ number
  pub last : last_of new session ≡ number
  pub gauges : (gauge : ℕ) → WaitsFor new session gauge ↔ Names op.needs gauge
  pub coming : moment_of new < op.deadline → coming_of new session ≡ Some op.deadline
  pub come : op.deadline ≤ moment_of new → coming_of new session ≡ None

-- the session waits for nothing. The greatest generation at which it waited stays
pub record WaitsNoMore (old new : Index) (session : ℕ) : Type 0 where
  pub generation : generation_of new session ≡ 0
  pub last : last_of new session ≡ last_of old session
  pub gauges : (gauge : ℕ) → ¬ WaitsFor new session gauge
  pub coming : coming_of new session ≡ None

-- nobody waits or ever did, and the moment is 0
pub record IsIdle (index : Index) : Type 0 where
  pub generation : (session : ℕ) → generation_of index session ≡ 0
  pub last : (session : ℕ) → last_of index session ≡ 0
  pub gauges : (session gauge : ℕ) → ¬ WaitsFor index session gauge
  pub coming : (session : ℕ) → coming_of index session ≡ None
  pub moment : moment_of index ≡ 0
