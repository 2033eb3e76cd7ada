-- What is kept of a partition's replicas: each number is the one that the definitions give for the whole history.
use Rattle.std.specs.Prelude.{◌≡◌, ℕ, List, Option, Some, None, map}
use Rattle.std.specs.List.{range_with_len}
use Rattle.partlog.specs.declared.in_sync.standing.Standing.{Standing}
use Rattle.partlog.specs.in_sync.ReplicaEvent.{ReplicaEvent}
use Rattle.partlog.specs.in_sync.LogEnd.{log_end_of}
use Rattle.partlog.specs.in_sync.Position.{position_of}
use Rattle.partlog.specs.in_sync.InSync.{in_sync_of, high_watermark_of}
use Rattle.partlog.specs.in_sync.CaughtUp.{Fetch, last_fetch_of, caught_up_of}

pub record Standings : Type 0 where
  pub log_end : ℕ
  pub high_watermark : ℕ
  -- of each follower, from the first on
  pub followers : List Standing

-- the moment of a last fetch and the log end as it came, each 0 where there was none
abbrev pub fetched_at : Option Fetch → ℕ
fetched_at None = 0
fetched_at (Some last) = last.t

abbrev pub fetched_end : Option Fetch → ℕ
fetched_end None = 0
fetched_end (Some last) = last.log_end

abbrev pub standing_of : ℕ → List ReplicaEvent → ℕ → Standing
standing_of followers events replica = record {
  position = position_of events replica;
  caught_up = caught_up_of events replica;
  fetched_at = fetched_at (last_fetch_of events replica);
  fetched_end = fetched_end (last_fetch_of events replica);
  in_sync = in_sync_of followers events replica;
}

abbrev pub standings_of : ℕ → List ReplicaEvent → Standings
standings_of followers events = record {
  log_end = log_end_of events;
  high_watermark = high_watermark_of followers events;
  followers = map (standing_of followers events) (range_with_len 1 followers);
}

-- these are the standings of this history of a partition with this many followers
abbrev pub StandsFor : Standings → ℕ → List ReplicaEvent → Type 0
StandsFor standings followers events = standings ≡ standings_of followers events
