use Rattle.std.proofs.Common.{arith, ◌≡◌, [], ◌∷◌, ◌++◌, length, length-append, ◌+◌, ◌∙◌, sym, ap, subst}
use Rattle.std.specs.Prelude.{All}
use Rattle.std.proofs.lemmas.List.Elements.{All-push}
use Rattle.turn_lock.proofs.Laws.{last_is_ready}
use Rattle.tests_of_libraries.specs.declared.turn_examples.NumberedPass.{NumberedPass}
use Rattle.tests_of_libraries.specs.declared.turn_examples.Numbers.{Numbers}
use Rattle.tests_of_libraries.specs.Numbered.{IsNumbered}
use Rattle.tests_of_libraries.proofs.turn_examples.numbered.Goals as goal

pub loop-pass-preserved : goal.loop-pass-preserved
loop-pass-preserved c =
    let lock = c.args.lock.now in
    let rest = c.pop.new.self in
    let pass = c.in-Some.pass in
    let all = c.loop-pass.all.items in
    let last = last_is_ready (λ (n : Numbers). n.series ∷ []) lock c.loop-pass.passes rest pass c.loop-pass.invariant.1 c.in-Some.ensures.items in
    let counted : c.len-number.result ≡ length rest = c.len-number.ensures in
    let one : NumberedPass = record { number = c.len-number.result; pass = pass } in
    let longer : c.push.new.self.items ≡ all ++ one ∷ [] = c.in_ok-push.ensures.items in
    let popped_len : length c.loop-pass.passes ≡ length rest + 1 = omega (arith, ap length c.in-Some.ensures.items, length-append rest (pass ∷ [])) in
    let pushed_len : length c.push.new.self.items ≡ length all + 1 = omega (arith, ap length longer, length-append all (one ∷ [])) in
    let sum = c.loop-pass.invariant.0 in
    let few = c.requires.few in
    let is : IsNumbered lock one = record { number = last.3 ∙ sym counted; few = omega arith; made = last.1; ready = last.2 } in (
      omega arith,
      last.0,
      subst (All (IsNumbered lock)) (sym longer) (All-push (IsNumbered lock) all one c.loop-pass.invariant.2 is),
    )
