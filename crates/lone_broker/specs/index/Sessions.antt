-- A set of sessions, as the number whose bits tell its members.
use Rattle.std.specs.Prelude.{◌≡◌, ℕ, ◌≤◌}
use Rattle.std.specs.Int.{bit_at}

-- the session is in the set
unfoldable pub Has : ℕ → ℕ → Type 0
Has set session = bit_at set session ≡ 1

-- the least session of the set that is at least `from`
pub record IsLeastFrom (set from session : ℕ) : Type 0 where
  pub member : Has set session
  pub above : from ≤ session
  pub least : (other : ℕ) → from ≤ other → Has set other → session ≤ other
