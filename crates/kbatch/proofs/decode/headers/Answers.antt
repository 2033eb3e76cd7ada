use Rattle.std.proofs.Common.{◌≡◌, Some}
use Rattle.kbatch.specs.declared.record.Header.{Header}
use Rattle.kbatch.specs.Walk.{header_at}
use Rattle.kbatch.specs.Decode.{list_at}
use Rattle.kbatch.proofs.ListsLoop.{list_goes_on, list_fails, list_done}
use Rattle.kbatch.proofs.decode.headers.Goals as goal

pub returns-in_default : goal.returns-in_default
returns-in_default c =
    list_fails header_at c.args.count c.loop.counter c.loop.headers c.loop.rest.now (list_at header_at c.args.count c.args.bytes.now) c.loop-test.true c.in_default.ensures c.loop.invariant

pub loop-preserved : goal.loop-preserved
loop-preserved c =
    let item : Header = record { key = c.in_ok-copied.field-0; value = c.in_ok-copied_or_null.field-0 } in
    let read : header_at c.loop.rest.now ≡ Some (item, c.in-Some.after.now) = rw (c.in_ok-copied.ensures, c.in_ok-copied_or_null.ensures) c.in-Some.ensures in
    rw c.in_ok-push.ensures.ok (list_goes_on header_at c.args.count c.loop.counter c.loop.headers c.loop.rest.now (list_at header_at c.args.count c.args.bytes.now) item c.in-Some.after.now c.loop-test.true read c.loop.invariant)

pub returns : goal.returns
returns c =
    list_done header_at c.args.count c.loop.counter c.loop.headers c.loop.rest.now (list_at header_at c.args.count c.args.bytes.now) c.loop-test.false c.loop.invariant
