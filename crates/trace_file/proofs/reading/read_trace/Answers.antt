use Rattle.std.proofs.Common.{[], inl}
use Rattle.std.proofs.lemmas.Result.{IfOk-weaker, IfErr-weaker}
use Rattle.trace_file.specs.FirstBad.{IsTraceRead, TellsFirstBad}
use Rattle.trace_file.proofs.reading.read_trace.Goals as goal

pub returns-then-text-gt-MOST_TRACE_BYTES-clause-bad : goal.returns-then-text-gt-MOST_TRACE_BYTES-clause-bad
returns-then-text-gt-MOST_TRACE_BYTES-clause-bad c = inl c.too_long.ensures

pub ended-requires : goal.ended-requires
ended-requires c =
    let only = c.args.only_topics in
    let text = c.args.text.now in
    (only, text, c.if-text-gt-MOST_TRACE_BYTES.false, c.in_ok-read.ensures.taken only [] c.new-reading.ensures.read)

pub returns-clause-trace : goal.returns-clause-trace
returns-clause-trace c =
    let only = c.args.only_topics in
    let text = c.args.text.now in
    IfOk-weaker c.ended.result _ (IsTraceRead text only) (λ lines h. h only text c.if-text-gt-MOST_TRACE_BYTES.false (c.in_ok-read.ensures.taken only [] c.new-reading.ensures.read)) c.ended.ensures.trace

pub returns-clause-bad : goal.returns-clause-bad
returns-clause-bad c =
    let only = c.args.only_topics in
    let text = c.args.text.now in
    IfErr-weaker c.ended.result _ (TellsFirstBad text only) (λ e h. h only text c.if-text-gt-MOST_TRACE_BYTES.false (c.in_ok-read.ensures.taken only [] c.new-reading.ensures.read)) c.ended.ensures.bad
