use Rattle.std.proofs.Common.{◌+◌, min, not, sym, ◌∙◌, ap}
use Rattle.partlog.specs.Gauges.{bytes_in}
use Rattle.partlog.specs.Taken.{taken, batches_past, batches_upto}
use Rattle.partlog.proofs.Taking.{end-fits, end-some, next-within, next-beyond}
use Rattle.partlog.proofs.search.taken_end.Goals as goal
use Rattle.partlog.proofs.search.taken_end.Goals.{then-end-start-via-then-end-start, then-end-start-via-else-end-start+then-not-force}

pub returns-then-end-start : goal.returns-then-end-start
returns-then-end-start c = λ bs from are at.
    let full = are.full in
    let room = c.min-room.ensures ∙ ap (λ n. min c.args.limit n) c.saturating_sub.ensures in
    let fits = end-fits bs from c.args.start c.args.upto c.args.limit full at c.end_upto-end.result c.min-room.result room (c.end_upto-end.ensures bs are) in
    elim c.then-end-start.branch [
      | then-end-start-via-then-end-start w ↦ end-some bs from c.args.start c.args.upto c.args.limit full at c.end_upto-end.result (not c.args.force) fits w.if-end-start.true
      | then-end-start-via-else-end-start+then-not-force w ↦ fits ∙ ap (λ force. c.args.start + bytes_in (taken c.args.limit (not force) (batches_past from (batches_upto c.args.upto bs)))) (sym w.if-not-force.true)
    ]

pub returns-then-after-upto : goal.returns-then-after-upto
returns-then-after-upto c = λ bs from are at.
    let full = are.full in
    let room = c.min-room.ensures ∙ ap (λ n. min c.args.limit n) c.saturating_sub.ensures in
    let fits = end-fits bs from c.args.start c.args.upto c.args.limit full at c.end_upto-end.result c.min-room.result room (c.end_upto-end.ensures bs are) in
    let first = c.start_from-after.ensures bs are in
    next-within bs from c.args.start c.args.upto c.args.limit full at c.end_upto-end.result c.start_from-after.result fits c.if-end-start.false first c.if-after-upto.true
    ∙ ap (λ force. c.args.start + bytes_in (taken c.args.limit (not force) (batches_past from (batches_upto c.args.upto bs)))) (sym c.if-not-force.false)

pub returns-else-after-upto : goal.returns-else-after-upto
returns-else-after-upto c = λ bs from are at.
    let full = are.full in
    let room = c.min-room.ensures ∙ ap (λ n. min c.args.limit n) c.saturating_sub.ensures in
    let fits = end-fits bs from c.args.start c.args.upto c.args.limit full at c.end_upto-end.result c.min-room.result room (c.end_upto-end.ensures bs are) in
    let first = c.start_from-after.ensures bs are in
    next-beyond bs from c.args.start c.args.upto c.args.limit full at c.end_upto-end.result c.start_from-after.result fits c.if-end-start.false first c.if-after-upto.false
    ∙ ap (λ force. c.args.start + bytes_in (taken c.args.limit (not force) (batches_past from (batches_upto c.args.upto bs)))) (sym c.if-not-force.false)
