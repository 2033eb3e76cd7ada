use Rattle.std.proofs.Common.{arith}
use Rattle.audit.proofs.Bounded.{logs_short}
use Rattle.audit.proofs.storm_print.print_storm.Goals as goal

pub put_parts-requires : goal.put_parts-requires
put_parts-requires c =
    rw c.as_slice.ensures (logs_short c.args.account.now c.requires.lawful (omega (arith, c.parts.ensures.count, c.parts.ensures.few)))
