use Rattle.std.proofs.Common.{◌+◌, ◌%◌, refl, rules, arith}
use Rattle.kbytes.proofs.Written.{partly_more, partly_done}
use Rattle.kbytes.proofs.varint.put_groups.Goals as goal

pub loop-rest-preserved : goal.loop-rest-preserved
loop-rest-preserved c =
    let l = c.loop-rest in
    partly_more l.bytes c.args.last c.args.number l.count l.rest (l.rest % 128 + 128) l.invariant (omega (arith, l.invariant.size, l.invariant.within, c.requires.last)) c.loop-rest-test.true refl

pub returns-clause-ok : goal.returns-clause-ok
returns-clause-ok c =
    let l = c.loop-rest in
    let written = partly_done l.bytes c.args.last c.args.number l.count l.rest l.invariant (omega (arith, l.invariant.size, l.invariant.within, c.requires.last)) c.loop-rest-test.false in
    rw (← written) (search rules)
