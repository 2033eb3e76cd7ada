use Rattle.audit.proofs.retelling.ByPoints.{item_there}
use Rattle.audit.proofs.retelling.Tellings.{next_session}
use Rattle.audit.proofs.retelling.telling.put_pass.Goals as goal

pub loop-transcript-preserved : goal.loop-transcript-preserved
loop-transcript-preserved c =
    let transcripts = c.args.transcripts.now in
    let i = c.loop-transcript.transcript-index in
    let transcript = c.transcript-item.result in
    next_session c.args.teller.now.account.now transcripts i transcript c.args.out.now c.loop-transcript.out c.put_session.new.out (item_there transcripts i transcript c.loop-transcript-test.true c.transcript-item.is) c.loop-transcript.invariant c.in_ok-put_session.ensures
