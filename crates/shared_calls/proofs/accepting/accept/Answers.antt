use Rattle.std.proofs.Common.{All, subst}
use Rattle.kanswer.specs.LogReadings.{IsCarriable}
use Rattle.shared_calls.specs.Came.{CameView}
use Rattle.shared_calls.proofs.Results.{are_results}
use Rattle.shared_calls.proofs.accepting.accept.Goals as goal

pub returns-clause-results : goal.returns-clause-results
returns-clause-results g c decisions decided =
    let came = c.carry_out.new.came in
    let fits = subst (λ (v : CameView). All IsCarriable v.accepted) c.came.view_is c.came.invariant.0 in
    are_results c.args.call.now.config.now c.requires.asked.0 c.args.request.now decisions came.accepted c.requires.asked.1 decided c.requires.few (c.in_ok-carry_out.ensures.results decisions decided) fits
