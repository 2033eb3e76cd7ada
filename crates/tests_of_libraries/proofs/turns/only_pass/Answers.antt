use Rattle.std.proofs.Common.{arith, ◌≡◌, [], ◌∷◌, ◌∙◌, ap, length, length-append}
use Rattle.turn_lock.proofs.Laws.{last_is_ready}
use Rattle.tests_of_libraries.proofs.turns.only_pass.Goals as goal

pub returns : goal.returns
returns g c =
    let rest = c.pop.new.self in
    let pass = c.in-Some.pass in
    let last = last_is_ready g.T.Kept.name c.args.lock.now c.args.passes rest pass c.requires.0 c.in-Some.ensures.items in
    let alone : length rest ≡ 0 = omega (arith, c.requires.1, ap length c.in-Some.ensures.items, length-append rest (pass ∷ [])) in
    (last.1, last.2, last.3 ∙ alone)
