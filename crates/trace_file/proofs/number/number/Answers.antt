use Rattle.std.proofs.Common.{◌≡◌, ◌<◌, ℕ, List, None, length, get_or, rules, arith, sym, ap, ◌∙◌}
use Rattle.std.specs.Str.Parse.{digits_value}
use Rattle.std.proofs.lemmas.Bool.Decides.{nat_tests}
use Rattle.std.proofs.lemmas.Fmt.{decimal_nonempty}
use Rattle.trace_file.proofs.Numbers.{digits_are, decimal_leads, decimal_value}
use Rattle.trace_file.proofs.number.number.Goals as goal
use Rattle.trace_file.proofs.number.number.Goals.{else-word-gt1-via-then-word-gt1+else-word-eq-ZERO, else-word-gt1-via-else-word-gt1}

pub returns-then-is_empty-clause-none : goal.returns-then-is_empty-clause-none
returns-then-is_empty-clause-none c = λ n le is.
    let some = decimal_nonempty n (omega arith) in
    let e = ap length is in
    grind (arith, nat_tests)

pub returns-then-word-eq-ZERO-clause-none : goal.returns-then-word-eq-ZERO-clause-none
returns-then-word-eq-ZERO-clause-none c = λ n le is.
    let one = decimal_leads n (omega arith) (sym (ap (λ (w : List ℕ). get_or w 0 0) is) ∙ c.if-word-eq-ZERO.true) in
    absurd (omega (arith, one, ap length is))

pub returns-in_err-n-clause-none : goal.returns-in_err-n-clause-none
returns-in_err-n-clause-none c =
    let e : c.from_residual.result ≡ None = search rules in
    rw e (λ n le is.
    let at = decimal_value n (omega arith) in
    absurd (omega (arith, c.in_err-n.ensures.none (rw is at.0), ap (digits_value 10) is, at.1)))

pub returns-then-n-most-clause-some : goal.returns-then-n-most-clause-some
returns-then-n-most-clause-some c =
    let word = c.args.word.now in
    let lead : get_or word 0 0 ≡ 48 → length word ≡ 1 = λ zero.
    elim c.else-word-gt1.branch [
      | else-word-gt1-via-then-word-gt1+else-word-eq-ZERO w ↦ absurd (w.if-word-eq-ZERO.false zero)
      | else-word-gt1-via-else-word-gt1 w ↦ grind (arith, nat_tests)
    ]
    in
    let some : 0 < length word = grind (arith, nat_tests) in
    digits_are word c.in_ok-n.n some lead c.in_ok-n.ensures.digits c.in_ok-n.ensures.some (omega arith)

pub returns-else-n-most-clause-none : goal.returns-else-n-most-clause-none
returns-else-n-most-clause-none c = λ n le is. absurd (omega (arith, c.in_ok-n.ensures.some, ap (digits_value 10) is, (decimal_value n (omega arith)).1))
