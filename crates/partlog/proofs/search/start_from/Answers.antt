use Rattle.partlog.proofs.Halving.{places-rise, from-found, from-nothing}
use Rattle.partlog.proofs.search.start_from.Goals as goal

pub count_before-before-requires : goal.count_before-before-requires
count_before-before-requires c = places-rise (record { base = 0; place = 0 }) c.args.starts.now c.args.next c.requires.0 c.requires.1

pub returns-then-before-starts : goal.returns-then-before-starts
returns-then-before-starts c = λ batches are.
    from-found (record { base = 0; place = 0 }) c.args.starts.now c.args.next batches are c.count_before-before.result c.count_before-before.ensures.bound c.args.place c.count_before-before.ensures.point c.if-before-starts.true

pub returns-else-before-starts : goal.returns-else-before-starts
returns-else-before-starts c = λ batches are.
    from-nothing (record { base = 0; place = 0 }) c.args.starts.now c.args.next batches are c.count_before-before.result c.count_before-before.ensures.bound c.args.place c.count_before-before.ensures.point c.if-before-starts.false
