-- How many followers are in sync, and how many there are.
use Rattle.std.proofs.Common.{◌≡◌, ℕ, suc, ◌+◌, ◌≤◌, Bool, true, false, cond, List, [], ◌∷◌, length, filter, arith, ap, ◌∙◌}
use Rattle.std.specs.List.{range_with_len}
use Rattle.std.proofs.lemmas.List.FromFn.{length-range_with_len, length-map-range_with_len}
use Rattle.partlog.specs.in_sync.ReplicaEvent.{ReplicaEvent}
use Rattle.partlog.specs.in_sync.InSync.{in_sync_of, count_of}
use Rattle.partlog.specs.in_sync.Standings.{Standings, StandsFor, standing_of}

no-longer : (test : ℕ → Bool) (rs : List ℕ) → length (filter test rs) ≤ length rs
no-longer test [] = omega arith
no-longer test (r ∷ rs) = either (test r) (no-longer test rs)
  where
    either : (b : Bool) → length (filter test rs) ≤ length rs → length (cond b (r ∷ filter test rs) (filter test rs)) ≤ suc (length rs)
    either true le = omega arith
    either false le = omega arith

module _ (followers : ℕ) (events : List ReplicaEvent) where
  -- the leader is one
  pub count-some : 1 ≤ count_of followers events
  count-some = omega arith

  pub count-within : count_of followers events ≤ 1 + followers
  count-within = omega (arith, no-longer (in_sync_of followers events) (range_with_len 1 followers), length-range_with_len 1 followers)

  pub stands-followers : (standings : Standings) → StandsFor standings followers events → length standings.followers ≡ followers
  stands-followers standings stands = ap (λ (s : Standings). length s.followers) stands ∙ length-map-range_with_len (standing_of followers events) 1 followers
