-- Whose turn it is.
use Rattle.std.specs.Prelude.{◌≡◌}
use Rattle.turn_lock.specs.declared.pass.TurnPass.{TurnPass}
use Rattle.turn_lock.specs.declared.turn.Turn.{Turn}
use Rattle.turn_lock.specs.Passes.{IsOut}

-- the pass got this turn, and has it out
abbrev pub HasTurn : {T E : Type 0} → TurnPass T E → Turn T E → Type 0
HasTurn pass turn = (turn.from.value ≡ pass.seat) × IsOut pass.seat turn.ticket
