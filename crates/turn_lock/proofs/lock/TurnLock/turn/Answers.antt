use Rattle.std.proofs.Common.{rules, ap}
use Rattle.std.specs.Prelude.{Some}
use Rattle.turn_lock.proofs.Steps.{held}
use Rattle.turn_lock.proofs.lock.TurnLock.turn.Goals as goal

pub exchange-found-requires : goal.exchange-found-requires
exchange-found-requires g c =
    let took = c.wait.ensures.3 in
    (search rules, (Some took.value, held c.wait.new.seat.me.1 (Some took.value) (ap (λ m. m.1) took.now)))
