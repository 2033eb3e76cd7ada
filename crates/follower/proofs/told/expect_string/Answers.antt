use Rattle.std.proofs.Common.{sym, ◌∙◌, arith}
use Rattle.std.specs.Cmp.Lexicographic.{other_text}
use Rattle.kbytes.specs.Reading.{string_at}
use Rattle.kbytes.proofs.Laws.{string_reads}
use Rattle.follower.proofs.Fronts.{must_read, read_same}
use Rattle.follower.proofs.told.expect_string.Goals as goal

pub returns-in_default-clause-none : goal.returns-in_default-clause-none
returns-in_default-clause-none c = λ after stands.
    let reader = c.args.reader.now in
    let there = string_reads c.args.value.now reader after (omega (arith, c.requires.short)) stands in
    let same = read_same (string_at reader) c.in-Ok.found.now c.args.value.now _ _ c.in-Ok.ensures.exact there in
    other_text c.in-Ok.found.now c.args.value.now (sym c.if-eq.false ∙ c.eq.ensures) same

pub returns-in_default-2-clause-none : goal.returns-in_default-2-clause-none
returns-in_default-2-clause-none c = λ after stands.
    let reader = c.args.reader.now in
    let there = string_reads c.args.value.now reader after (omega (arith, c.requires.short)) stands in
    let must = must_read (λ v. v.now) reader c.string.new.self _ c.string.result (string_at reader) c.args.value.now c.string.ensures.exact there in
    absurd (cc (c.in_default.is, must.1))
