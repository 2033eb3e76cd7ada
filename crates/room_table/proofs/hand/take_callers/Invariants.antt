use Rattle.std.proofs.Common.{◌≡◌, ◌++◌, List, length}
use Rattle.room_table.specs.Seats.{CallerView}
use Rattle.room_table.proofs.hand.take_callers.Given as goal

abbrev pub invariant-loop-caller : goal.invariant-loop-caller
invariant-loop-caller l = (rest : List CallerView) × (l.fn.callers ≡ l.callers ++ rest) × (l.closing ≡ record l.initial.closing { callers = rest ++ l.initial.closing.callers })

abbrev pub decreases-loop-caller : goal.decreases-loop-caller
decreases-loop-caller l = length l.callers
