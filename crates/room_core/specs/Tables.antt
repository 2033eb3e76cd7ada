-- The state that the tables of the code show.
use Rattle.std.specs.Prelude.{false, slice_get}
use Rattle.room_core.specs.declared.parts.Phase.{Phase}
use Rattle.room_core.specs.declared.core_state.CoreState.{CoreState}
use Rattle.room_core.specs.CallerTables.{table, caller_at}
use Rattle.room_core.specs.ScannerTables.{row, scanner_at}
use Rattle.room_core.specs.State.{State}

abbrev pub state_of : CoreState → State
state_of c = record {
  shape = c.shape;
  value = table c.value.items 0;
  asked = table c.asked.items 0;
  begun = table c.begun.items 0;
  session = table c.session.items (record { generation = 0; phase = Phase.Idle });
  description = λ pass. row (slice_get c.description.items pass) 0;
  marks = λ pass. row (slice_get c.marks.items pass) 0;
  source = table c.source.items (record { stored = 0; loud = false });
  caller = λ pass. caller_at (slice_get c.caller.items pass);
  scanner = λ k. scanner_at (slice_get c.scanner.items k);
}
