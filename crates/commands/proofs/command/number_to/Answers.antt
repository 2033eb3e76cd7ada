use Rattle.std.proofs.Common.{◌≡◌, sym, ◌∙◌, arith}
use Rattle.std.proofs.lemmas.Fmt.{decimal_injective}
use Rattle.commands.proofs.command.number_to.Goals as goal
use Rattle.commands.proofs.command.number_to.Goals.{then-number-eq0-via-then-number-eq0, then-number-eq0-via-else-number-eq0+then-from-number}

pub returns-then-number-eq0-clause-none : goal.returns-then-number-eq0-clause-none
returns-then-number-eq0-clause-none c = λ n some few is.
    let read : c.in_ok-number.number ≡ n = decimal_injective c.in_ok-number.number n (omega arith) (omega (arith, few)) (sym c.in_ok-number.ensures.some ∙ is) in
    elim c.then-number-eq0.branch [
      | then-number-eq0-via-then-number-eq0 w ↦ omega (arith, w.if-number-eq0.true, read, some)
      | then-number-eq0-via-else-number-eq0+then-from-number w ↦ omega (arith, w.if-from-number.true, w.from.ensures, read, few)
    ]
