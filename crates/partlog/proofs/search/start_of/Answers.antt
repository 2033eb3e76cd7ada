use Rattle.std.proofs.Common.{arith, sym, ap, ◌∙◌}
use Rattle.partlog.specs.Gauges.{bytes_in}
use Rattle.partlog.proofs.Halving.{all-below, bases-rise, offset-found}
use Rattle.partlog.proofs.search.start_of.Goals as goal

pub returns-then-offset-next : goal.returns-then-offset-next
returns-then-offset-next c = λ batches are.
    are.place ∙ sym (ap bytes_in (all-below (record { base = 0; place = 0 }) c.args.offset 0 batches are.rising (omega (arith, are.base))))

pub count_at-begun-requires : goal.count_at-begun-requires
count_at-begun-requires c = bases-rise (record { base = 0; place = 0 }) c.args.starts.now c.args.next c.requires.0 c.requires.1

pub overflow_sub-result : goal.overflow_sub-result
overflow_sub-result c =
    let found = offset-found (record { base = 0; place = 0 }) c.args.starts.now c.args.next c.requires.0 c.requires.1 c.count_at-begun.result c.count_at-begun.ensures.bound c.args.offset c.count_at-begun.ensures.point c.if-offset-next.false in
    omega (arith, found.0)

pub bounds-starts-begun : goal.bounds-starts-begun
bounds-starts-begun c =
    let found = offset-found (record { base = 0; place = 0 }) c.args.starts.now c.args.next c.requires.0 c.requires.1 c.count_at-begun.result c.count_at-begun.ensures.bound c.args.offset c.count_at-begun.ensures.point c.if-offset-next.false in
    omega (arith, found.0, c.count_at-begun.ensures.bound)

pub returns : goal.returns
returns c = λ batches are.
    (offset-found (record { base = 0; place = 0 }) c.args.starts.now c.args.next batches are c.count_at-begun.result c.count_at-begun.ensures.bound c.args.offset c.count_at-begun.ensures.point c.if-offset-next.false).1
