use Rattle.std.proofs.Common.{sym, ap, ◌∙◌}
use Rattle.audit.specs.broker.Completing.{finish_last}
use Rattle.audit.proofs.Laws.{on_ok}
use Rattle.lone_broker.proofs.Seats.{finish_push}
use Rattle.lone_broker.proofs.desk.finish_call.Goals as goal

pub returns-clause-calls : goal.returns-clause-calls
returns-clause-calls c =
    on_ok c.push.result c.push.ensures.ok (λ e.
    e ∙ sym (ap (finish_last c.args.finish c.args.how) c.in-Some.ensures.items ∙ finish_push c.args.finish c.args.how c.pop.new.self c.in-Some.call))
