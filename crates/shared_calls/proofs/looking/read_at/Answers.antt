use Rattle.std.proofs.Common.{◌≡◌, ◌∙◌, ◌/◌, [], ◌∷◌, ap, rules, subst, sym}
use Rattle.std.proofs.lemmas.Int.{to_z-of_z}
use Rattle.std.specs.Int.{w32}
use mir.Val.{SFits}
use Rattle.kanswer.specs.declared.accepted.Accepted.{Accepted}
use Rattle.kanswer.specs.declared.accepted.Accepted.TheVariants.{Appended}
use Rattle.kanswer.specs.PartitionGauges.{fetched_gauge}
use Rattle.shared_calls.specs.Fresh.{IsFresh}
use Rattle.shared_calls.specs.Readings.{WereRead}
use Rattle.shared_calls.proofs.Gauges.{fetch_part}
use Rattle.shared_calls.proofs.Readings.{read_appended, read_refused}
use Rattle.shared_calls.proofs.looking.read_at.Goals as goal

pub returns-in-Refused-clause-read : goal.returns-in-Refused-clause-read
returns-in-Refused-clause-read g c =
    let call = c.args.call.now.looking in
    let a = c.args.pass.now in
    let p = c.args.points.now in
    let fresh = IsFresh (fetched_gauge c.args.call.now.replica) call.needs.now call.values.now in
    let budget = c.args.budget.now in
    subst (λ (x : Accepted). WereRead call.by.now.seq fresh c.args.call.now.replica (c.args.asked.now ∷ []) a p (x ∷ []) budget a p budget (c.read_nothing.result ∷ [])) (sym c.in-Refused.is)
    (read_refused call.by.now.seq fresh a p c.args.call.now.replica c.args.asked.now c.in-Refused.code c.read_nothing.result budget)

pub returns-in_ok-look_fresh-in-Appended-clause-read : goal.returns-in_ok-look_fresh-in-Appended-clause-read
returns-in_ok-look_fresh-in-Appended-clause-read g c =
    let call = c.args.call.now.looking in
    let a = c.args.pass.now in
    let p = c.args.points.now in
    let new = c.look_fresh.new in
    let part = c.in-Appended.part in
    let replica = c.args.call.now.replica in
    let budget = c.args.budget.now in
    let reading = c.read_nothing-in-Appended.result in
    let fresh = IsFresh (fetched_gauge replica) call.needs.now call.values.now in
    let fits : SFits w32 replica = search rules in
    let gauge_is = c.fetched_gauge.ensures ∙ ap (λ z. fetched_gauge z part) (to_z-of_z w32 replica fits) in
    let same : c.fetched_gauge.result / 3 ≡ part = ap (λ n. n / 3) gauge_is ∙ fetch_part replica part in
    let became = Appended part c.in-Appended.base c.in-Appended.count in
    let looked = c.in_ok-look_fresh-in-Appended.ensures.looked (fetched_gauge replica) became (ap (fetched_gauge replica) same ∙ sym gauge_is) (ap (λ n. n ∷ []) (sym same)) in
    subst (λ (x : Accepted). WereRead call.by.now.seq fresh replica (c.args.asked.now ∷ []) a p (x ∷ []) budget new.pass new.points budget (reading ∷ [])) (sym c.in-Appended.is)
    (read_appended call.by.now.seq fresh a p replica c.args.asked.now new.pass new.points part c.in-Appended.base c.in-Appended.count looked.0 reading budget looked.2)
