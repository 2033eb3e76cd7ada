use Rattle.std.proofs.Common.{length, eqb, ap, arith}
use Rattle.trace_file.proofs.Cuts.{some_parts}
use Rattle.trace_file.proofs.words.one_word.Goals as goal

pub returns-in-Some-clause-none : goal.returns-in-Some-clause-none
returns-in-Some-clause-none c = λ words.
    let rest = c.in-Some.field-0.1.now in
    absurd (omega (arith, ap length c.in-Some.ensures.front, words.count_is, some_parts (λ x. eqb x 32) rest))
