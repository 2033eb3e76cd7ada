use Rattle.std.proofs.Common.{take}
use Rattle.partlog.specs.in_sync.Standings.{StandsFor}
use Rattle.partlog.specs.Replicas.{replica_events}
use Rattle.audit.proofs.numbers.high_watermark.Given as goal

abbrev pub invariant-loop-event : goal.invariant-loop-event
invariant-loop-event l = StandsFor l.replicas l.followers (replica_events (take l.event-index l.events))
