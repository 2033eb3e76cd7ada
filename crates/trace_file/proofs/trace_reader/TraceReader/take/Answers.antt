use Rattle.std.proofs.Common.{◌≡◌, ◌+◌, ◌-◌, ℕ, take, refl, sym, ap, ◌∙◌, arith, inl, inr, length-append}
use Rattle.std.proofs.lemmas.List.{length-take-le}
use Rattle.trace_file.specs.declared.line.TheConstants.{MOST_TRACE_BYTES}
use Rattle.trace_file.specs.TextRead.{feeds_in}
use Rattle.trace_file.proofs.Begun.{few_feeds, feeds_cut, feeds_more, long_more, long_taken, short_taken}
use Rattle.trace_file.proofs.trace_reader.TraceReader.take.Goals as goal

pub returns-then-reader-gt-MOST_TRACE_BYTES : goal.returns-then-reader-gt-MOST_TRACE_BYTES
returns-then-reader-gt-MOST_TRACE_BYTES g c = λ only text taken.
    inr (long_more text c.args.part.now c.args.self (long_taken only text c.args.self c.if-reader-gt-MOST_TRACE_BYTES.true taken))

pub overflow_add-reader : goal.overflow_add-reader
overflow_add-reader g c =
    let t = c.requires.taken in
    let part = c.args.part.now in
    let short = short_taken t.0 t.1 c.args.self c.if-reader-gt-MOST_TRACE_BYTES.false t.2 in
    let left = MOST_TRACE_BYTES - c.args.self.length in
    omega (
      arith,
      c.feeds-before.ensures t.0 t.1 short,
      few_feeds t.1,
      short.size,
      c.line_feeds.ensures,
      few_feeds (take left part),
      length-take-le left part (omega (arith, c.if-part-left.true)),
    )

pub returns-then-part-left : goal.returns-then-part-left
returns-then-part-left g c = λ only text taken.
    let part = c.args.part.now in
    let short = short_taken only text c.args.self c.if-reader-gt-MOST_TRACE_BYTES.false taken in
    let left = MOST_TRACE_BYTES - c.args.self.length in
    let counted : c.feeds-before.result + c.line_feeds.result ≡ feeds_in text + feeds_in (take left part) = omega (arith, c.feeds-before.ensures only text short, c.line_feeds.ensures) in
    inr (record {
      size = omega (arith, short.length_is, c.if-part-left.true, length-append text part);
      length_is = refl;
      counted = counted ∙ feeds_cut text part left (omega (arith, short.length_is, short.size));
    })

pub feeds_after-requires : goal.feeds_after-requires
feeds_after-requires g c =
    let t = c.requires.taken in
    let short = short_taken t.0 t.1 c.args.self c.if-reader-gt-MOST_TRACE_BYTES.false t.2 in
    omega (arith, c.feeds-before.ensures t.0 t.1 short, few_feeds t.1, short.size, c.if-part-left.false)

pub returns : goal.returns
returns g c = λ only text taken.
    let part = c.args.part.now in
    let short = short_taken only text c.args.self c.if-reader-gt-MOST_TRACE_BYTES.false taken in
    let on = c.in_ok-read.ensures.read only text short.front short.cut short.read in
    let same = c.in_ok-read.ensures.same.0 in
    inl (record {
      size = omega (arith, short.length_is, short.size, c.if-part-left.false, length-append text part);
      length_is = omega (arith, same, short.length_is, length-append text part);
      front = on.0;
      cut = on.1;
      read = on.2;
      counted = λ bad. c.feeds_after.ensures bad ∙ ap (λ (n : ℕ). n + feeds_in part) (c.feeds-before.ensures only text short) ∙ sym (feeds_more text part);
    })
