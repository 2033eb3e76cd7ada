-- What a turn is after its value was lent for writing.
use Rattle.std.specs.Borrow.{Lends, MutBor, Fml, RattleType}
use Rattle.turn_lock.specs.declared.turn.Turn.{Turn}
use Rattle.turn_lock.specs.contracts.turn.Turn.{the_row}

-- the turn with another value
abbrev pub with_value : {T E : Type 0} → Turn T E → T → Turn T E
with_value turn x = record turn { value = x }

-- the turn ends with the value that is left behind r
abbrev pub lends_value : (T E : RattleType) → MutBor (Turn T.Denot E.Denot) → MutBor T.Denot → Fml
lends_value T E turn r = Lends (the_row T E) T turn r (with_value turn.now)
