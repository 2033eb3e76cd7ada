use Rattle.std.proofs.Common.{arith}
use Rattle.audit.proofs.Bounded.{logs_trackable}
use Rattle.audit.proofs.serve_print.print_serve.Goals as goal

pub put_parts-requires : goal.put_parts-requires
put_parts-requires c =
    rw c.as_slice-2.ensures (logs_trackable c.args.account.now c.requires.lawful (omega (arith, c.parts.ensures.count, c.parts.ensures.few)))
