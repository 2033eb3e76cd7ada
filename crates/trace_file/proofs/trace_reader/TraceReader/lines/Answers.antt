use Rattle.std.proofs.Common.{List, ℕ, ◌+◌, ◌++◌, refl, ap, subst, ◌∙◌, arith, inl}
use Rattle.std.proofs.lemmas.Result.{IfOk-weaker, IfErr-weaker}
use Rattle.trace_file.specs.TextRead.{HasRead}
use Rattle.trace_file.specs.Trace.{pieces_of}
use Rattle.trace_file.proofs.Begun.{few_first, long_taken, short_taken, pieces_all}
use Rattle.trace_file.proofs.trace_reader.TraceReader.lines.Goals as goal

pub overflow_cast-result : goal.overflow_cast-result
overflow_cast-result c =
    let long = long_taken c.requires.0 c.requires.1 c.args.self c.if-self-gt-MOST_TRACE_BYTES.true c.requires.2 in
    omega (arith, long.counted, few_first c.requires.1 long.size)

pub overflow_add-result : goal.overflow_add-result
overflow_add-result c =
    let long = long_taken c.requires.0 c.requires.1 c.args.self c.if-self-gt-MOST_TRACE_BYTES.true c.requires.2 in
    omega (arith, long.counted, few_first c.requires.1 long.size)

pub returns-then-self-gt-MOST_TRACE_BYTES-clause-bad : goal.returns-then-self-gt-MOST_TRACE_BYTES-clause-bad
returns-then-self-gt-MOST_TRACE_BYTES-clause-bad c = λ only text taken.
    let long = long_taken only text c.args.self c.if-self-gt-MOST_TRACE_BYTES.true taken in
    inl (record { long = long.size; line = ap (λ (n : ℕ). n + 1) long.counted; kind = refl })

pub ended-requires : goal.ended-requires
ended-requires c =
    let only = c.requires.0 in
    let text = c.requires.1 in
    let short = short_taken only text c.args.self c.if-self-gt-MOST_TRACE_BYTES.false c.requires.2 in
    let all = ap (λ (t : List ℕ). pieces_of short.front ++ pieces_of t) c.as_slice.ensures ∙ pieces_all text short.front c.args.self.begun short.cut in
    (only, text, short.size, subst (λ (ps : List (List ℕ)). HasRead only ps c.read.new.self) all (c.in_ok-read.ensures.taken only (pieces_of short.front) short.read))

pub returns-clause-trace : goal.returns-clause-trace
returns-clause-trace c =
    IfOk-weaker c.ended.result _ _
    (λ lines h only text taken.
    let short = short_taken only text c.args.self c.if-self-gt-MOST_TRACE_BYTES.false taken in
    let all = ap (λ (t : List ℕ). pieces_of short.front ++ pieces_of t) c.as_slice.ensures ∙ pieces_all text short.front c.args.self.begun short.cut in
    h only text short.size (subst (λ (ps : List (List ℕ)). HasRead only ps c.read.new.self) all (c.in_ok-read.ensures.taken only (pieces_of short.front) short.read)))
    c.ended.ensures.trace

pub returns-clause-bad : goal.returns-clause-bad
returns-clause-bad c =
    IfErr-weaker c.ended.result _ _
    (λ e h only text taken.
    let short = short_taken only text c.args.self c.if-self-gt-MOST_TRACE_BYTES.false taken in
    let all = ap (λ (t : List ℕ). pieces_of short.front ++ pieces_of t) c.as_slice.ensures ∙ pieces_all text short.front c.args.self.begun short.cut in
    h only text short.size (subst (λ (ps : List (List ℕ)). HasRead only ps c.read.new.self) all (c.in_ok-read.ensures.taken only (pieces_of short.front) short.read)))
    c.ended.ensures.bad
