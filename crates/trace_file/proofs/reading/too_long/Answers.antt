use Rattle.std.proofs.Common.{eqb, take, arith, sym}
use Rattle.std.proofs.lemmas.List.{length-take-le}
use Rattle.std.proofs.lemmas.List.Sums.{count_by-le-length}
use Rattle.trace_file.specs.declared.line.TheConstants.{MOST_TRACE_BYTES}
use Rattle.trace_file.proofs.reading.too_long.Goals as goal

pub slice_bounds-line_feeds-end : goal.slice_bounds-line_feeds-end
slice_bounds-line_feeds-end c = sym (length-take-le MOST_TRACE_BYTES c.args.text.now (omega (arith, c.requires)))

pub overflow_cast-result : goal.overflow_cast-result
overflow_cast-result c =
    let front = take MOST_TRACE_BYTES c.args.text.now in
    let most = length-take-le MOST_TRACE_BYTES c.args.text.now (omega (arith, c.requires)) in
    omega (arith, c.line_feeds.ensures, count_by-le-length (λ byte. eqb byte 10) front, most)

pub overflow_add-result : goal.overflow_add-result
overflow_add-result c =
    let front = take MOST_TRACE_BYTES c.args.text.now in
    let most = length-take-le MOST_TRACE_BYTES c.args.text.now (omega (arith, c.requires)) in
    omega (arith, c.line_feeds.ensures, count_by-le-length (λ byte. eqb byte 10) front, most)
