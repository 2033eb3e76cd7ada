use Rattle.std.proofs.Common.{⊎_elim, ◌≡◌, ◌<◌, ◌≤◌, ℕ, None, length, arith, sym, ap, refl, ◌∙◌}
use Rattle.std.proofs.lemmas.List.{get_or_past}
use Rattle.std.proofs.lemmas.Bool.{cases_lt}
use Rattle.room_core.specs.declared.shape.Shape.{Shape}
use Rattle.room_core.specs.Scans.{duty_of}
use Rattle.room_core.proofs.duties.make_duties.Goals as goal

no_entry : (shape : Shape) (gauge begun heard : ℕ) → duty_of shape gauge begun heard None ≡ None
unfolding duty_of
no_entry shape gauge begun heard = refl

pub returns-clause-duties : goal.returns-clause-duties
returns-clause-duties c pass =
    let long = c.loop-pass.invariant.long in
    ⊎_elim
    (λ (l : pass < length c.args.row.now). c.loop-pass.invariant.made pass (omega (arith, c.loop-pass-test.false)))
    (λ (l : length c.args.row.now ≤ pass).
    get_or_past c.loop-pass.duties.items pass None (omega arith) ∙ sym (no_entry c.args.shape c.args.gauge c.args.begun c.args.heard)
    ∙ ap (duty_of c.args.shape c.args.gauge c.args.begun c.args.heard) (sym (get_or_past c.args.row.now pass None l)))
    (cases_lt pass (length c.args.row.now))
