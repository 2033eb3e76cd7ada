use Rattle.std.proofs.Common.{◌≡◌, ◌<◌, get_or, rules, arith}
use Rattle.kbytes.proofs.Groups.{joined, ends_in_zero, ends_in_byte, ends_too_long, ends_short, goes_on}
use Rattle.kbytes.proofs.varint.groups.Goals as goal
use Rattle.kbytes.proofs.varint.groups.Goals.{else-byte-eq0-via-then-byte-eq0+else-place-gt0, else-byte-eq0-via-else-byte-eq0}

pub returns-then-place-gt0-clause-exact : goal.returns-then-place-gt0-clause-exact
returns-then-place-gt0-clause-exact c =
    let l = c.loop-place in
    ends_in_zero c.args.rest.now c.args.at c.args.last l.place l.number l.invariant c.loop-place-test.true c.if-byte-eq0.true c.if-place-gt0.true

pub returns-then-byte-lt128-clause-exact : goal.returns-then-byte-lt128-clause-exact
returns-then-byte-lt128-clause-exact c =
    let l = c.loop-place in
    let some : 0 < l.place → get_or c.args.rest.now l.place 0 ≡ 0 → ⊥ =
    elim c.else-byte-eq0.branch [
      | else-byte-eq0-via-then-byte-eq0+else-place-gt0 w ↦ λ lt e. omega (arith, lt, w.if-place-gt0.false)
      | else-byte-eq0-via-else-byte-eq0 w ↦ λ lt e. w.if-byte-eq0.false e
    ] in
    rw (c.from.ensures, joined l.number l.place (get_or c.args.rest.now l.place 0) (omega (arith, l.invariant.within)) l.invariant.small)
    (ends_in_byte c.args.rest.now c.args.at c.args.last l.place l.number l.invariant c.loop-place-test.true c.if-byte-lt128.true some)

pub returns-then-place-last-clause-exact : goal.returns-then-place-last-clause-exact
returns-then-place-last-clause-exact c =
    let l = c.loop-place in
    ends_too_long c.args.rest.now c.args.at c.args.last l.place l.number l.invariant c.loop-place-test.true c.if-byte-lt128.false c.if-place-last.true

pub loop-place-preserved : goal.loop-place-preserved
loop-place-preserved c =
    let l = c.loop-place in
    rw (c.from.ensures, joined l.number l.place (get_or c.args.rest.now l.place 0) (omega (arith, l.invariant.within)) l.invariant.small)
    (goes_on c.args.rest.now c.args.at c.args.last l.place l.number l.invariant c.loop-place-test.true c.if-byte-lt128.false (search rules) c.if-place-last.false)

pub returns-clause-exact : goal.returns-clause-exact
returns-clause-exact c =
    let l = c.loop-place in
    ends_short c.args.rest.now c.args.at c.args.last l.place l.number l.invariant c.loop-place-test.false
