use Rattle.std.proofs.Common.{codes, refl, ap, sym, ◌∙◌}
use Rattle.std.specs.Cmp.Lexicographic.{same_text}
use Rattle.commands.specs.Commands.{said}
use Rattle.commands.proofs.Spellings.{three_items, workers_said}
use Rattle.commands.proofs.command.workers_in.Goals as goal

pub returns-in-len3-clause-some : goal.returns-in-len3-clause-some
returns-in-len3-clause-some c =
    let words = c.args.words.now in
    let three = three_items words c.word-item.result c.option-item.result c.count-item.result c.in-len3.len_at_least c.in-len3.len_below c.word-item.is c.option-item.is c.count-item.is in
    let word = c.as_str.result.now in
    let option = c.as_str-then-eq.result.now in
    let count = c.as_str-in-len3.result.now in
    workers_said c.number_to.result (said words) word option count
    (ap said three ∙ rw (c.as_str.ensures.value, c.as_str-then-eq.ensures.value, c.as_str-in-len3.ensures.value) refl)
    (same_text word (codes "replay") (sym c.if-eq.true ∙ c.eq.ensures))
    (same_text option (codes "--workers") (sym c.if-eq-2.true ∙ c.eq-then-eq.ensures))
    c.number_to.ensures.some c.number_to.ensures.in_range
