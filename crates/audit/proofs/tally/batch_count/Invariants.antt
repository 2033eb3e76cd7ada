use Rattle.std.proofs.Common.{◌≡◌, ◌≤◌, List, ℕ, length, take}
use Rattle.partlog.specs.Batches.{batches_of}
use Rattle.audit.proofs.tally.batch_count.Given as goal

abbrev pub invariant-loop-event : goal.invariant-loop-event
invariant-loop-event l = record {
  few : l.count ≤ l.event-index;
  counted : (log : List ℕ) → l.count ≡ length (batches_of (take l.event-index l.events) log);
}
