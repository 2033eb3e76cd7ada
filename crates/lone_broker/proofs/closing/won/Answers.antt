use Rattle.std.proofs.Common.{ap, arith, ◌∙◌, sum_by}
use Rattle.std.proofs.lemmas.List.{take_all}
use Rattle.lone_broker.proofs.Closings.{won_in, won_all}
use Rattle.lone_broker.proofs.closing.won.Goals as goal

pub returns : goal.returns
returns c =
    c.loop-desk.invariant.count
    ∙ ap (sum_by won_in) (take_all c.loop-desk.desk-index c.args.desks.now (omega (arith, c.loop-desk-test.false)))
    ∙ won_all c.args.desks.now
