-- What one call makes of what is kept.
use Rattle.std.specs.Prelude.{ℕ, ◌+◌, ◌&&◌, Bool, true, List, [], ◌∷◌, Option, Some, None, max, min, map, filter, fold, nat_le, nat_lt, if◌then◌else◌}
use Rattle.partlog.specs.declared.in_sync.standing.Standing.{Standing}
use Rattle.partlog.specs.declared.in_sync.limits.TheConstants.{MOST_LAG}

-- the least of the log end and the positions of those in sync
abbrev pub least_of : ℕ → List Standing → ℕ
least_of log_end followers = fold min log_end (map (λ (s : Standing). s.position) (filter (λ (s : Standing). s.in_sync) followers))

-- a standing after a fetch, with the log end and the high watermark before it
abbrev pub after_fetch : Standing → ℕ → ℕ → ℕ → ℕ → Standing
after_fetch s log_end high offset t = record {
  position = max s.position offset;
  caught_up = max s.caught_up (if nat_le log_end offset then t else (if nat_le s.fetched_end offset then s.fetched_at else 0));
  fetched_at = t;
  fetched_end = log_end;
  in_sync = if nat_le high offset then true else s.in_sync;
}

-- whether a follower lags, as far as its standing says
abbrev pub is_late : ℕ → ℕ → Standing → Bool
is_late log_end t s = s.in_sync && (nat_lt s.position log_end && nat_le (s.caught_up + MOST_LAG) t)

-- the first of these followers that lags, where the first of them has this number
abbrev pub first_late : ℕ → ℕ → ℕ → List Standing → Option ℕ
first_late log_end t replica [] = None
first_late log_end t replica (s ∷ followers) = if is_late log_end t s then Some replica else first_late log_end t (replica + 1) followers
