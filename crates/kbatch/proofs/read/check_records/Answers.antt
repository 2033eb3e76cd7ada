use Rattle.kbatch.proofs.Records.{not_read, one_read}
use Rattle.kbatch.proofs.read.check_records.Goals as goal

pub loop-delta-preserved : goal.loop-delta-preserved
loop-delta-preserved c = one_read c.args.bytes.now c.loop-delta.delta c.loop-delta.rest.now c.in-Some.after.now (λ i. let b = c.type_inv.bytes i in b.fits) c.loop-delta.invariant c.in-Some.ensures

pub returns-in_default-clause-fault : goal.returns-in_default-clause-fault
returns-in_default-clause-fault c =
    (not_read c.args.bytes.now c.args.count c.loop-delta.delta c.loop-delta.rest.now c.requires.least c.requires.most c.requires.count c.requires.count_fits c.loop-delta-test.true c.loop-delta.invariant c.in_default.ensures, c.requires.before)
