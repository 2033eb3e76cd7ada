use Rattle.std.proofs.Common.{◌≡◌, sym, ◌∙◌, arith}
use Rattle.std.proofs.lemmas.Fmt.{decimal_injective}
use Rattle.follower.proofs.words.number_in.Goals as goal

pub returns-then-number-from-clause-none : goal.returns-then-number-from-clause-none
returns-then-number-from-clause-none c = λ n some few is.
    let read : c.in-Some.number ≡ n = decimal_injective c.in-Some.number n (omega arith) (omega (arith, few)) (sym c.in-Some.ensures.some ∙ is) in
    omega (arith, c.if-number-from.true, c.from.ensures, read, some)

pub returns-then-from-number-clause-none : goal.returns-then-from-number-clause-none
returns-then-from-number-clause-none c = λ n some few is.
    let read : c.in-Some.number ≡ n = decimal_injective c.in-Some.number n (omega arith) (omega (arith, few)) (sym c.in-Some.ensures.some ∙ is) in
    omega (arith, c.if-from-number.true, c.from-2.ensures, read, few)
