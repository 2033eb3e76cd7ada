use Rattle.std.proofs.Common.{[], ◌++◌, ap, sym, arith}
use Rattle.turn_lock.specs.declared.known.Known.{Known}
use Rattle.purgatory.proofs.locks.list_clock.Goals as goal

pub end-requires-clause-history : goal.end-requires-clause-history
end-requires-clause-history g c =
    ([], ap (λ (k : Known (Unit {0})). k.seen ++ []) (sym c.turn-turn.ensures.pass.2), λ k u less. omega (arith, less))
