use Rattle.std.proofs.Common.{ap}
use Rattle.trace_workers.specs.Joined.{JoinedView}
use Rattle.trace_workers.specs.declared.joined.Closing.{Closing}
use Rattle.trace_workers.proofs.joined.put_together.Goals as goal

pub returns : goal.returns
returns c joined p d = ap (λ (j : JoinedView). Closing.Again c.args.broker j) (c.in_ok-joined.ensures joined p d)
