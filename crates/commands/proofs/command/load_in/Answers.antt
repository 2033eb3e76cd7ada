use Rattle.std.proofs.Common.{codes, ap, refl, sym, ◌∙◌, arith}
use Rattle.std.specs.Cmp.Lexicographic.{same_text}
use Rattle.commands.specs.Commands.{said}
use Rattle.commands.proofs.Spellings.{four_items, load_said}
use Rattle.commands.proofs.command.load_in.Goals as goal

pub returns-in_ok-number_to-in-len4-2-clause-some : goal.returns-in_ok-number_to-in-len4-2-clause-some
returns-in_ok-number_to-in-len4-2-clause-some c =
    let words = c.args.words.now in
    let four = four_items words c.word-item.result c.seed-item.result c.requests-item.result c.workers-item.result c.in-len4.len_at_least c.in-len4.len_below c.word-item.is c.seed-item.is c.requests-item.is c.workers-item.is in
    let word = c.as_str.result.now in
    let seed = c.in_ok-number-in-len4 in
    let requests = c.in_ok-number_to-in-len4 in
    let workers = c.in_ok-number_to-in-len4-2 in (
      load_said (said words) word c.as_str-in-len4.result.now c.as_str-in-len4-2.result.now c.as_str-in-len4-3.result.now seed.field-0 requests.field-0 workers.field-0
          (ap said four ∙ rw (c.as_str.ensures.value, c.as_str-in-len4.ensures.value, c.as_str-in-len4-2.ensures.value, c.as_str-in-len4-3.ensures.value) refl)
          (same_text word (codes "storm") (sym c.if-eq.true ∙ c.eq.ensures)) seed.ensures.some requests.ensures.some workers.ensures.some,
      record { seed = omega arith; some = requests.ensures.in_range.0; most = requests.ensures.in_range.1; workers = workers.ensures.in_range },
    )
