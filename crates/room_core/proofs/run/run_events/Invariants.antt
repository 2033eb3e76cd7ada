use Rattle.std.proofs.Common.{take}
use Rattle.room_core.specs.Run.{IsRun}
use Rattle.room_core.specs.Start.{start_of}
use Rattle.room_core.specs.Tables.{state_of}
use Rattle.room_core.proofs.run.run_events.Given as goal

abbrev pub invariant-loop-event : goal.invariant-loop-event
invariant-loop-event l = IsRun (start_of l.fn.shape) (take l.event-index l.events) (state_of l.state)
