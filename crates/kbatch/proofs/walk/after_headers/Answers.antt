use Rattle.kbatch.proofs.HeadersLoop.{goes_on, fails, is_done}
use Rattle.kbatch.proofs.walk.after_headers.Goals as goal

pub returns-in_err-rest : goal.returns-in_err-rest
returns-in_err-rest c =
    rw c.from_residual.ensures (fails c.args.count c.loop.counter c.loop.rest.now _ c.loop-test.true c.in_err-rest.ensures c.loop.invariant)

pub loop-preserved : goal.loop-preserved
loop-preserved c = goes_on c.args.count c.loop.counter c.loop.rest.now c.in_ok-rest.rest.now _ c.loop-test.true c.in_ok-rest.ensures c.loop.invariant

pub returns : goal.returns
returns c = is_done c.args.count c.loop.counter c.loop.rest.now _ c.loop-test.false c.loop.invariant
