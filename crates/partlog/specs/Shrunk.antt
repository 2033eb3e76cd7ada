-- A log whose in-sync set a follower was taken out of: one entry more, and nothing else. Also one that all who lagged at a
-- moment were taken out of, the least first.
use Rattle.std.specs.Prelude.{ℕ, ℤ, pos, List, [], ◌∷◌, ◌++◌, map, filter, take}
use Rattle.std.specs.List.{range_with_len}
use Rattle.partlog.specs.in_sync.Lagging.{lags}
use Rattle.partlog.specs.declared.event.PartEvent.{PartEvent}
use Rattle.partlog.specs.declared.event.PartEvent.TheVariants.{Shrink}
use Rattle.partlog.specs.History.{History}
use Rattle.partlog.specs.Replicas.{replica_events}

abbrev pub shrunk : History → ℕ → ℤ → ℕ → History
shrunk h by replica t = record h { events = h.events ++ Shrink by replica t ∷ [] }

-- those that lag, from the least on
abbrev pub late_at : History → ℕ → List ℕ
late_at h t = filter (lags h.followers (replica_events h.events) t) (range_with_len 1 h.followers)

abbrev pub shrinks_at : History → ℕ → ℕ → List PartEvent
shrinks_at h by t = map (λ replica. Shrink by (pos replica) t) (late_at h t)

abbrev pub all_shrunk : History → ℕ → ℕ → History
all_shrunk h by t = record h { events = h.events ++ shrinks_at h by t }

-- only as many of them
abbrev pub some_shrunk : ℕ → History → ℕ → ℕ → History
some_shrunk n h by t = record h { events = h.events ++ take n (shrinks_at h by t) }
