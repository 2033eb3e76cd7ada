use Rattle.std.specs.Prelude.{◌≡◌, ℕ, ◌<◌, ◌≤◌, List, AllPairs, All}
use Rattle.watch_lists.specs.declared.watch.Watch.{Watch}

-- the watchers of a key: each with the key, an id below the limit and a generation of 1 or more, in rising order of id
pub record IsRow (key ids : ℕ) (row : List Watch) : Type 0 where
  pub rising : AllPairs (λ a b. a.id < b.id) row
  pub keyed : All (λ w. w.key ≡ key) row
  pub below : All (λ w. w.id < ids) row
  pub numbered : All (λ w. 1 ≤ w.generation) row
