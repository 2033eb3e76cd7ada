use Rattle.audit.proofs.retelling.ByPoints.{item_there}
use Rattle.audit.proofs.retelling.Tellings.{next_call}
use Rattle.audit.proofs.retelling.telling.put_replies.Goals as goal

pub loop-call-preserved : goal.loop-call-preserved
loop-call-preserved c =
    let calls = c.args.calls.now in
    let i = c.loop-call.call-index in
    let call = c.call-item.result in
    next_call c.args.teller.now.account.now c.args.session calls i call c.args.out.now c.loop-call.out c.put_reply.new.out (item_there calls i call c.loop-call-test.true c.call-item.is) c.loop-call.invariant c.in_ok-put_reply.ensures
