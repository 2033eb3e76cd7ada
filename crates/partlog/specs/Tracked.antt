-- What the code keeps of a log beside its bytes and its history, all of which follows from these: where each batch
-- begins, how its replicas stand, and the log's numbers. What was entered of who was taken out holds besides: each of them lagged.
use Rattle.std.specs.Prelude.{◌≡◌, ℕ, ◌<◌, ◌^◌, List}
use Rattle.partlog.specs.in_sync.Standings.{Standings, StandsFor}
use Rattle.partlog.specs.declared.batch_start.BatchStart.{BatchStart}
use Rattle.partlog.specs.declared.event.PartEvent.{PartEvent}
use Rattle.partlog.specs.declared.numbers.Numbers.{Numbers}
use Rattle.partlog.specs.Batches.{batches_of}
use Rattle.partlog.specs.Gauges.{numbers_of}
use Rattle.partlog.specs.Kept.{IsKept}
use Rattle.partlog.specs.Lagging.{LeftLate}
use Rattle.partlog.specs.Replicas.{replica_events}
use Rattle.partlog.specs.Starts.{starts_from}
use Rattle.partlog.specs.State.{state_of}

pub record IsTracked (log : List ℕ) (followers : ℕ) (events : List PartEvent) (begun : List BatchStart) (replicas : Standings) (counted : Numbers) : Type 0 where
  pub kept : IsKept log events
  pub starts : begun ≡ starts_from 0 (batches_of events log)
  pub few : followers < 2 ^ 31
  pub stands : StandsFor replicas followers (replica_events events)
  pub numbers : counted ≡ numbers_of (state_of (record { log = log; followers = followers; events = events }))
  pub late : LeftLate followers events
