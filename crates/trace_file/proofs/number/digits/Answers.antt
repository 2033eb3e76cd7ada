use Rattle.std.proofs.Common.{◌≡◌, ◌+◌, ◌*◌, None, ℕ, get_or, rules, sym, ap, ◌∙◌}
use Rattle.std.proofs.lemmas.Int.Digits.{digits_value_more, digits_more}
use Rattle.std.specs.Char.{digit_value}
use Rattle.trace_file.proofs.Numbers.{too_great}
use Rattle.trace_file.proofs.number.digits.Goals as goal

pub returns-in_err-n-clause-none : goal.returns-in_err-n-clause-none
returns-in_err-n-clause-none c =
    let e : c.from_residual.result ≡ None = search rules in
    rw e (too_great c.args.word.now c.loop-c.c-index c.loop-c.n c.loop-c-test.true c.loop-c.invariant.number c.in_err-n.ensures)

pub loop-c-preserved : goal.loop-c-preserved
loop-c-preserved c =
    let word = c.args.word.now in
    let i = c.loop-c.c-index in
    let one = c.in_ok-n.ensures in record {
      number = one.1 ∙ ap (λ (n : ℕ). n * 10 + digit_value (get_or word i 0)) c.loop-c.invariant.number ∙ sym (digits_value_more 10 word i c.loop-c-test.true);
      digits = digits_more 10 word i c.loop-c-test.true c.loop-c.invariant.digits one.0.0;
    }
