use Rattle.std.proofs.Common.{List, subst, sym}
use Rattle.std.specs.List.{AllByRecursion}
use Rattle.audit.specs.declared.account.Transcript.{Transcript}
use Rattle.audit.specs.retelling.Tellable.{IsTold}
use Rattle.audit.proofs.retelling.ByPoints.{item_there}
use Rattle.audit.proofs.retelling.Tellings.{HaveTold, next_pass, pass_told}
use Rattle.audit.proofs.retelling.telling.put_passes.Goals as goal

pub put_pass-requires-clause-told : goal.put_pass-requires-clause-told
put_pass-requires-clause-told c =
    let account = c.args.teller.now.account.now in
    let passes = c.args.passes.now in
    let i = c.loop-transcripts.transcripts-index in
    let pass = c.transcripts-item.result in
    let at = item_there passes i pass c.loop-transcripts-test.true c.transcripts-item.is in
    subst (AllByRecursion (IsTold account)) (sym c.as_slice.ensures) (pass_told (IsTold account) passes i pass c.requires.told at)

pub loop-transcripts-preserved : goal.loop-transcripts-preserved
loop-transcripts-preserved c =
    let account = c.args.teller.now.account.now in
    let passes = c.args.passes.now in
    let i = c.loop-transcripts.transcripts-index in
    let pass = c.transcripts-item.result in
    let at = item_there passes i pass c.loop-transcripts-test.true c.transcripts-item.is in
    next_pass account passes i pass c.args.out.now c.loop-transcripts.out c.put_pass.new.out at c.loop-transcripts.invariant
    (subst (λ (ts : List Transcript). HaveTold account ts c.loop-transcripts.out c.put_pass.new.out) c.as_slice.ensures c.in_ok-put_pass.ensures)
