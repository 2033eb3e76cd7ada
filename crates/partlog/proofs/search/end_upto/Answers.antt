use Rattle.std.proofs.Common.{arith, sym, ap, ◌∙◌}
use Rattle.partlog.specs.Gauges.{bytes_in}
use Rattle.partlog.proofs.Halving.{fitting-all, places-rise, upto-found}
use Rattle.partlog.proofs.search.end_upto.Goals as goal

pub returns-then-place-next : goal.returns-then-place-next
returns-then-place-next c = λ batches are.
    are.place ∙ sym (ap bytes_in (fitting-all c.args.place batches (omega (arith, are.place))))

pub count_before-before-requires : goal.count_before-before-requires
count_before-before-requires c = places-rise (record { base = 0; place = 0 }) c.args.starts.now c.args.next c.requires.0 c.requires.1

pub overflow_sub-result : goal.overflow_sub-result
overflow_sub-result c =
    let found = upto-found (record { base = 0; place = 0 }) c.args.starts.now c.args.next c.requires.0 c.requires.1 c.count_before-before.result c.count_before-before.ensures.bound c.args.place c.count_before-before.ensures.point c.if-place-next.false in
    omega (arith, found.0)

pub bounds-starts-before : goal.bounds-starts-before
bounds-starts-before c =
    let found = upto-found (record { base = 0; place = 0 }) c.args.starts.now c.args.next c.requires.0 c.requires.1 c.count_before-before.result c.count_before-before.ensures.bound c.args.place c.count_before-before.ensures.point c.if-place-next.false in
    omega (arith, found.0, c.count_before-before.ensures.bound)

pub returns : goal.returns
returns c = λ batches are.
    (upto-found (record { base = 0; place = 0 }) c.args.starts.now c.args.next batches are c.count_before-before.result c.count_before-before.ensures.bound c.args.place c.count_before-before.ensures.point c.if-place-next.false).1
