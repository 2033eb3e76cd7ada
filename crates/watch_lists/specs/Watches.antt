-- A shard of Kafka's purgatory keeps, for each key, who watches it.
use Rattle.std.specs.Prelude.{ℕ, List, [], ◌∷◌, ◌++◌, Bool, ◌==◌, ◌&&◌, nat_lt, Contains, filter, length, slice_index_or, slice_set, sum_by}
use Rattle.watch_lists.specs.declared.watch.Watch.{Watch}

pub record Watches : Type 0 where
  -- ids are below this number
  pub ids : ℕ
  -- the watchers of each key, in rising order of id, at most one for an id
  pub rows : List (List Watch)

-- how many keys there are
abbrev pub keys_of : Watches → ℕ
keys_of watches = length watches.rows

-- the watchers of a key
abbrev pub row_of : Watches → ℕ → List Watch
row_of watches key = slice_index_or watches.rows key []

-- with these watchers of a key
abbrev pub with_row : Watches → ℕ → List Watch → Watches
with_row watches key row = record watches { rows = slice_set watches.rows key row }

-- the id is listed under the key with this generation
abbrev pub IsListed : Watches → ℕ → ℕ → ℕ → Type 0
IsListed watches key id generation = Contains (row_of watches key) (record { key = key; id = id; generation = generation })

-- how many watchers there are
abbrev pub size_of : Watches → ℕ
size_of watches = sum_by length watches.rows

-- a row with this watcher in the place of any other of its id
abbrev pub listing : Watch → List Watch → List Watch
listing watch row = filter (λ w. nat_lt w.id watch.id) row ++ watch ∷ filter (λ w. nat_lt watch.id w.id) row

-- the watcher has this id and generation
abbrev pub is_of : ℕ → ℕ → Watch → Bool
is_of id generation watch = (watch.id == id) && (watch.generation == generation)

-- the watcher is of its id's live generation, where `live` has one for each id, and 0 for none
abbrev pub is_live : List ℕ → Watch → Bool
is_live live watch = watch.generation == slice_index_or live watch.id 0
