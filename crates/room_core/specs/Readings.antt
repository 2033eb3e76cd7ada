-- Readings of a check, by gauge.
use Rattle.std.specs.Prelude.{ℕ, Option, None, unwrap_or}

-- nothing was read
abbrev pub unread : ℕ → Option ℕ
unread gauge = None

-- what was read, and the present value of what wasn't
abbrev pub known : (ℕ → Option ℕ) → (ℕ → ℕ) → ℕ → ℕ
known readings value gauge = unwrap_or (readings gauge) (value gauge)

-- what was read, and 0 where nothing was
abbrev pub read_only : (ℕ → Option ℕ) → ℕ → ℕ
read_only readings gauge = unwrap_or (readings gauge) 0
