use Rattle.std.proofs.Common.{take}
use Rattle.audit.proofs.retelling.Tellings.{HaveTold}
use Rattle.audit.proofs.retelling.telling.put_pass.Given as goal

abbrev pub invariant-loop-transcript : goal.invariant-loop-transcript
invariant-loop-transcript l = HaveTold l.teller.account.now (take l.transcript-index l.transcripts) l.fn.out l.out
