use Rattle.std.proofs.Common.{◌≡◌, ◌+◌, ◌*◌, ◌/◌, ◌≤◌, arith}
use Rattle.std.proofs.lemmas.Nat.{le-div, div-add-mod'}
use Rattle.std.proofs.lemmas.Bool.{ltb-true}
use Rattle.timing_wheel.proofs.timer.reaches.Goals as goal

pub returns-else-ahead-tick-2 : goal.returns-else-ahead-tick-2
returns-else-ahead-tick-2 c =
    let far = c.if-ahead-tick-2.false in
    let u = c.args.tick in
    let a = div-add-mod' c.args.put u in
    let e : (c.args.put / u + 20) * u ≤ c.args.deadline = omega arith in
    let b : c.args.put / u + 20 ≤ c.args.deadline / u = le-div (c.args.put / u + 20) c.args.deadline u c.requires.tick e in
    ((λ h. let l = ltb-true _ _ h in absurd (omega arith)), (λ h. absurd (omega arith)))
