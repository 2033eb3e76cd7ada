-- What the entries of a partition's history say of its replicas: that there are more records, that a follower fetched, and
-- that one was taken out of the in-sync set. A look says nothing, and neither does an entry of a replica below 0.
use Rattle.std.specs.Prelude.{pos, negsuc, List, Option, Some, None}
use Rattle.std.specs.List.{filter_map}
use Rattle.partlog.specs.in_sync.ReplicaEvent.{ReplicaEvent, Appended, Fetched, Left}
use Rattle.partlog.specs.declared.event.PartEvent.{PartEvent}
use Rattle.partlog.specs.declared.event.PartEvent.TheVariants.{Append, Follow, Look, Shrink}

abbrev pub replica_event : PartEvent → Option ReplicaEvent
replica_event (Append by seq count len) = Some (Appended count)
replica_event (Follow by seq (pos replica) offset t) = Some (Fetched replica offset t)
replica_event (Follow by seq (negsuc n) offset t) = None
replica_event (Look by seq) = None
replica_event (Shrink by (pos replica) t) = Some (Left replica t)
replica_event (Shrink by (negsuc n) t) = None

abbrev pub replica_events : List PartEvent → List ReplicaEvent
replica_events events = filter_map replica_event events
