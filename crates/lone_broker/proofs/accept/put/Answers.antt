use Rattle.kanswer.specs.Sent.{sent_outcome}
use Rattle.audit.proofs.Laws.{on_ok}
use Rattle.lone_broker.proofs.DecisionSteps.{entered_noted}
use Rattle.lone_broker.proofs.accept.put.Goals as goal

pub returns : goal.returns
returns c =
    on_ok c.note_at.result c.note_at.ensures (entered_noted c.args.visitor.who.by c.args.visitor.who.seq c.args.visitor.moment c.args.part (sent_outcome c.args.part c.args.sent.now) c.args.log.now c.enter_batch.new.log c.in_ok-entered.entered c.args.came.now c.note_at.new.self c.in_ok-entered.ensures.entered)
