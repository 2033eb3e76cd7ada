-- The state of a partition is that of its whole history.
use Rattle.std.specs.Prelude.{ℕ, ◌+◌, List, take}
use Rattle.partlog.specs.in_sync.InSync.{high_watermark_of, count_of}
use Rattle.partlog.specs.History.{History}
use Rattle.partlog.specs.Added.{log_end_of, bytes_of}
use Rattle.partlog.specs.Batches.{StoredBatch, batches_of}
use Rattle.partlog.specs.Replicas.{replica_events}

pub record PartState : Type 0 where
  pub batches : List StoredBatch
  pub log_end : ℕ
  -- the high watermark, and how many replicas are in sync, the leader among them
  pub high : ℕ
  pub insync : ℕ

abbrev pub state_of : History → PartState
state_of h = record {
  batches = batches_of h.events h.log;
  log_end = log_end_of h.events;
  high = high_watermark_of h.followers (replica_events h.events);
  insync = count_of h.followers (replica_events h.events);
}

-- the history up to a place, with the log bytes of its own Appends
abbrev pub front_of : History → ℕ → History
front_of h place = record {
  log = take (bytes_of (take place h.events)) h.log;
  followers = h.followers;
  events = take place h.events;
}

-- the state of the entries before a place
abbrev pub state_before : History → ℕ → PartState
state_before h place = state_of (front_of h place)

-- the state of the entries up to a place and with it
abbrev pub state_at : History → ℕ → PartState
state_at h place = state_before h (place + 1)
