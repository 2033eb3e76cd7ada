use Rattle.std.proofs.Common.{take}
use Rattle.audit.specs.retelling.Shares.{sessions_in}
use Rattle.audit.proofs.retelling.Tellings.{HaveTold}
use Rattle.audit.proofs.retelling.telling.put_passes.Given as goal

abbrev pub invariant-loop-transcripts : goal.invariant-loop-transcripts
invariant-loop-transcripts l = HaveTold l.teller.account.now (sessions_in (take l.transcripts-index l.passes)) l.fn.out l.out
