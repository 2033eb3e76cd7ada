use Rattle.std.proofs.Common.{length, ap, arith}
use Rattle.kbatch.proofs.Batches.{batch_len}
use Rattle.kbatch.proofs.view.BatchView.bytes.Goals as goal

pub returns-clause-least : goal.returns-clause-least
returns-clause-least c =
    let inv = c.self.invariant in
    omega (arith, inv.1.some_record, batch_len c.self.inside.bytes.now inv.0 inv.1, ap length c.self.view_is)
