use Rattle.std.proofs.Common.{subst, sym}
use Rattle.std.specs.Prelude.{◌↔◌, IsTrue, IfOk}
use Rattle.room_core.specs.declared.event.CoreEvent.TheVariants.{Win}
use Rattle.room_core.specs.Step.{IsAllowed}
use Rattle.room_core.specs.Tables.{state_of}
use Rattle.room_core.proofs.core_state.CoreState.win.Goals as goal

pub returns-in-Scanner-clause-allowed : goal.returns-in-Scanner-clause-allowed
returns-in-Scanner-clause-allowed c =
    subst (λ who. IfOk c.win_by_scanner.result (λ made. IsTrue made ↔ IsAllowed (state_of c.args.self.now) (Win who c.args.pass c.args.how))) (sym c.in-Scanner.is) c.win_by_scanner.ensures.allowed
