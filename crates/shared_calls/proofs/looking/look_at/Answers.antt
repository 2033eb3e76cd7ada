use Rattle.std.proofs.Common.{◌≡◌, ◌∙◌, ◌*◌, ◌/◌, [], ◌∷◌, ap, subst, sym, inl, inr}
use Rattle.kanswer.specs.declared.accepted.Accepted.{Accepted}
use Rattle.kanswer.specs.Results.{parts_asked}
use Rattle.kanswer.specs.PartitionGauges.{high_gauge}
use Rattle.shared_calls.specs.Fresh.{IsFresh}
use Rattle.shared_calls.specs.Readings.{WereNumbered}
use Rattle.shared_calls.proofs.Gauges.{produce_part}
use Rattle.shared_calls.proofs.Readings.{numbered_asked, numbered_refused}
use Rattle.shared_calls.proofs.looking.look_at.Goals as goal

pub returns-in-Refused-clause-looked : goal.returns-in-Refused-clause-looked
returns-in-Refused-clause-looked g c =
    let call = c.args.call.now in
    let a = c.args.pass.now in
    let p = c.args.points.now in
    let fresh = IsFresh high_gauge call.needs.now call.values.now in
    subst (λ (x : Accepted). WereNumbered call.by.now.seq fresh a p (x ∷ []) a p (c.read_nothing.result ∷ [])) (sym c.in-Refused.is) (numbered_refused call.by.now.seq fresh a p c.in-Refused.code c.read_nothing.result)

pub returns-in_ok-numbers-in-Appended-clause-looked : goal.returns-in_ok-numbers-in-Appended-clause-looked
returns-in_ok-numbers-in-Appended-clause-looked g c =
    let call = c.args.call.now in
    let a = c.args.pass.now in
    let p = c.args.points.now in
    let became = c.args.became.now in
    let part = c.in-Appended.part in
    let new = c.look_fresh.new in
    let fresh = IsFresh high_gauge call.needs.now call.values.now in
    let one : parts_asked (became ∷ []) ≡ part ∷ [] = elim c.in-Appended.is [
      | inl appended ↦ ap (λ (x : Accepted). parts_asked (x ∷ [])) appended.2
      | inr seen ↦ ap (λ (x : Accepted). parts_asked (x ∷ [])) seen.1
    ] in
    let asks : parts_asked (became ∷ []) ≡ (3 * part) / 3 ∷ [] = one ∙ ap (λ n. n ∷ []) (sym (produce_part part)) in
    let looked = c.in_ok-numbers-in-Appended.ensures.looked high_gauge became (ap high_gauge (produce_part part)) asks in
    numbered_asked call.by.now.seq fresh a p new.pass new.points became looked.0 _ looked.2 looked.1
