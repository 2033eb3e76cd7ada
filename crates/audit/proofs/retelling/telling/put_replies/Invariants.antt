use Rattle.std.proofs.Common.{take}
use Rattle.audit.proofs.retelling.Tellings.{HavePut}
use Rattle.audit.proofs.retelling.telling.put_replies.Given as goal

abbrev pub invariant-loop-call : goal.invariant-loop-call
invariant-loop-call l = HavePut l.teller.account.now l.session (take l.call-index l.calls) l.fn.out l.out
