-- The shards of watchers, and the watchers of a gauge.
use Rattle.std.specs.Prelude.{◌≡◌, ℕ, ◌<◌, ◌/◌, List, length, slice_index_or}
use Rattle.watch_lists.specs.declared.watch.Watch.{Watch}
use Rattle.watch_lists.specs.Watches.{Watches, keys_of, row_of}
use Rattle.lone_broker.specs.declared.index.session_set.TheConstants.{SESSIONS}
use Rattle.lone_broker.specs.declared.index.shelves.TheConstants.{KEYS, SHARDS}
use Rattle.lone_broker.specs.index.Index.{shard_of}

-- as many shards as there are to be, each with its keys and for all sessions
pub record AreShelved (shards : List Watches) : Type 0 where
  pub sixteen : length shards ≡ SHARDS
  pub keys : (at : ℕ) (d : Watches) → at < SHARDS → keys_of (slice_index_or shards at d) ≡ KEYS
  pub ids : (at : ℕ) (d : Watches) → at < SHARDS → (slice_index_or shards at d).ids ≡ SESSIONS

-- the watchers of a gauge, in rising order of session
unfoldable pub row_at : List Watches → ℕ → List Watch
row_at shards gauge = row_of (shard_of shards gauge) (gauge / 16)
