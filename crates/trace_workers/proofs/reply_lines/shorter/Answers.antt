use Rattle.std.proofs.Common.{refl}
use Rattle.shared_broker.proofs.Laws.{caught_up_still}
use Rattle.trace_workers.proofs.reply_lines.shorter.Goals as goal

pub returns-in_default : goal.returns-in_default
returns-in_default g c = record { others = caught_up_still c.args.pass.now; same = λ account on. refl }
