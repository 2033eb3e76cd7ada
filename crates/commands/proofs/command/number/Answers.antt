use Rattle.std.proofs.Common.{◌≡◌, sym, ◌∙◌}
use Rattle.std.proofs.lemmas.Fmt.{parse-decimal}
use Rattle.std.specs.Cmp.Lexicographic.{other_text}
use Rattle.commands.proofs.command.number.Goals as goal

pub returns-in_default-clause-none : goal.returns-in_default-clause-none
returns-in_default-clause-none c = λ n few is. absurd (cc (parse-decimal 64 n c.args.word.now c.parse.result few few is c.parse.ensures.value.0))

pub returns-else-eq-clause-none : goal.returns-else-eq-clause-none
returns-else-eq-clause-none c = λ n few is.
    let read = parse-decimal 64 n c.args.word.now c.parse.result few few is c.parse.ensures.value.0 in
    let same : c.in-Ok.number ≡ n = cc read in
    let text : c.format.result.now ≡ c.args.word.now = cc is in
    other_text c.format.result.now c.args.word.now (sym c.if-eq.false ∙ c.eq.ensures) text
