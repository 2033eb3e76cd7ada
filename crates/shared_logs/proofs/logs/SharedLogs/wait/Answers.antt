use Rattle.std.proofs.Common.{subst, sym}
use Rattle.room_table.specs.Seats.{caller_now}
use Rattle.purgatory.specs.Going.{OwesNothing}
use Rattle.shared_logs.specs.Shared.{LogPassView}
use Rattle.shared_logs.proofs.logs.SharedLogs.wait.Goals as goal

pub wait-requires-clause-paid : goal.wait-requires-clause-paid
wait-requires-clause-paid g c = subst (λ (v : LogPassView). OwesNothing (caller_now v.seat)) (sym c.pass.view_is) c.requires.paid
