use Rattle.std.proofs.Common.{◌≡◌, ◌-◌, Some, length, sym, ap, ◌∙◌, Bool}
use Rattle.std.specs.Prelude.{slice_get}
use mir.Val.{bool_byte}
use Rattle.audit.proofs.Tallies.{parked_last, byte_of}
use Rattle.audit.proofs.tally.parked_count.Goals as goal

pub returns-in-Some : goal.returns-in-Some
returns-in-Some c =
    let calls = c.args.calls.now in
    let last : slice_get calls (length calls - 1) ≡ Some c.in-Some.call.now = sym c.in-Some.ensures.value in
    c.from.ensures ∙ ap (λ (b : Bool). bool_byte b) c.is_parked.ensures ∙ byte_of _ ∙ sym (parked_last calls c.in-Some.call.now last)
