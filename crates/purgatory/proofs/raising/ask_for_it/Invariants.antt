use Rattle.std.proofs.Common.{◌≡◌}
use Rattle.room_table.specs.Seats.{caller_now, source_now}
use Rattle.purgatory.specs.Going.{GoesOn, KeepsOperation, OwesElse}
use Rattle.purgatory.proofs.raising.ask_for_it.Given as goal

abbrev pub invariant-loop : goal.invariant-loop
invariant-loop g l = record {
  table : l.source.table ≡ l.initial.source.table;
  number : l.source.gauge ≡ l.initial.source.gauge;
  stored : (source_now l.source).stored ≡ l.value;
  went : GoesOn l.initial.owner l.owner;
  kept : KeepsOperation (caller_now l.initial.owner) (caller_now l.owner);
  others : OwesElse l.gauge (caller_now l.initial.owner) (caller_now l.owner);
}
