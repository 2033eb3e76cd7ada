use Rattle.std.proofs.Common.{◌∙◌, ◌/◌, [], ◌∷◌, ap, arith, length, rules, subst, sym, to_z, of_z}
use Rattle.std.proofs.lemmas.Int.{to_z-of_z}
use Rattle.std.specs.Int.{w32}
use mir.Val.{SFits}
use Rattle.kanswer.specs.declared.accepted.Accepted.TheVariants.{Seen}
use Rattle.partlog.specs.State.{state_of}
use Rattle.audit.specs.broker.Board.{history_at}
use Rattle.shared_logs.specs.Asked.{HasRead}
use Rattle.shared_logs.specs.Shared.{SharedView}
use Rattle.kanswer.specs.PartitionGauges.{fetched_gauge}
use Rattle.shared_calls.specs.Fresh.{IsFresh}
use Rattle.shared_calls.specs.Looks.{HaveStopped}
use Rattle.shared_calls.proofs.Looks.{caught_up_stopped, looked_stopped}
use Rattle.shared_calls.proofs.Passes.{as_many_seen}
use Rattle.shared_calls.proofs.Readings.{turn_looked, turn_read}
use Rattle.shared_calls.proofs.Room.{read_room}
use Rattle.shared_calls.proofs.Telling.{if_ok_at, on_err}
use Rattle.shared_calls.proofs.looking.read_fresh.Goals as goal

pub returns-in_err-read-clause-stopped : goal.returns-in_err-read-clause-stopped
returns-in_err-read-clause-stopped g c =
    let call = c.args.call.now in
    let a = c.args.pass.now in
    let p = c.args.points.now in
    let new = c.read.new in
    let e = c.in_err-read.ensures in
    let fresh = IsFresh (fetched_gauge c.args.wanted.now.replica) call.needs.now call.values.now in
    let next = Seen c.args.wanted.now.part c.args.start ∷ [] in
    on_err c.from_residual.result (subst (HaveStopped call.by.now.seq fresh a p next new.pass) (sym e.none) (caught_up_stopped call.by.now.seq fresh a new.pass p next e.refused c.read.ensures.seen.0 c.read.ensures.seen.1))

pub returns-in_err-records-clause-stopped : goal.returns-in_err-records-clause-stopped
returns-in_err-records-clause-stopped g c =
    let call = c.args.call.now in
    let a = c.args.pass.now in
    let p = c.args.points.now in
    let new = c.read.new in
    let e = c.in_ok-read.ensures in
    let looked = c.in_ok-read.read.looked in
    let fresh = IsFresh (fetched_gauge c.args.wanted.now.replica) call.needs.now call.values.now in
    let fits : SFits w32 c.args.wanted.now.replica = search rules in
    let cast = to_z-of_z w32 c.args.wanted.now.replica fits in
    let gauge_is = c.fetched_gauge-gauge.ensures ∙ ap (λ z. fetched_gauge z c.args.wanted.now.part) cast in
    let many = as_many_seen a c.read.ensures.seen.0 ∙ ap (λ (s : SharedView). length s.parts) c.requires.made in
    let one = turn_looked call.by.now.seq call.needs.now call.values.now a new.pass p new.points c.args.wanted.now.replica c.args.wanted.now.part c.fetched_gauge-gauge.result c.least_of-value.result looked.place c.args.start looked.numbers gauge_is e.looked e.points
    c.read.ensures.seen.0 c.read.ensures.seen.1 (omega (arith, many, c.requires.there)) c.least_of-value.ensures in
    on_err c.from_residual-in_err-records.result (looked_stopped call.by.now.seq fresh a new.pass p new.points (Seen c.args.wanted.now.part c.args.start ∷ []) _ one)

pub returns-clause-read : goal.returns-clause-read
returns-clause-read g c =
    let call = c.args.call.now in
    let a = c.args.pass.now in
    let p = c.args.points.now in
    let new = c.read.new in
    let e = c.in_ok-read.ensures in
    let looked = c.in_ok-read.read.looked in
    let fits : SFits w32 c.args.wanted.now.replica = search rules in
    let cast = to_z-of_z w32 c.args.wanted.now.replica fits in
    let gauge_is = c.fetched_gauge-gauge.ensures ∙ ap (λ z. fetched_gauge z c.args.wanted.now.part) cast in
    let many = as_many_seen a c.read.ensures.seen.0 ∙ ap (λ (s : SharedView). length s.parts) c.requires.made in
    let place = c.fetched_gauge-gauge.result / 3 in
    let had = HasRead (to_z w32 (of_z w32 c.args.wanted.now.replica)) c.args.wanted.now.asked.now (Seen place c.args.start) (state_of (history_at new.pass.parts place)) looked.numbers in
    let read = subst (λ z. HasRead z c.args.wanted.now.asked.now (Seen place c.args.start) (state_of (history_at new.pass.parts place)) looked.numbers c.in_ok-records.records c.args.budget.now new.budget) cast
    (if_ok_at (λ records. had records c.args.budget.now new.budget) c.in_ok-read.read.records c.in_ok-records.records c.in_ok-records.was e.read) in
    turn_read call.by.now.seq call.needs.now call.values.now a new.pass p new.points c.args.wanted.now.replica c.args.wanted.now.part c.fetched_gauge-gauge.result c.least_of-value.result looked.place c.args.start looked.numbers gauge_is e.looked e.points
    c.read.ensures.seen.0 c.read.ensures.seen.1 (omega (arith, many, c.requires.there)) c.least_of-value.ensures c.args.wanted.now.asked.now c.in_ok-records.records c.args.budget.now new.budget read

pub returns-clause-room : goal.returns-clause-room
returns-clause-room g c =
    let new = c.read.new in
    let looked = c.in_ok-read.read.looked in
    let place = c.fetched_gauge-gauge.result / 3 in
    let had = HasRead (to_z w32 (of_z w32 c.args.wanted.now.replica)) c.args.wanted.now.asked.now (Seen place c.args.start) (state_of (history_at new.pass.parts place)) looked.numbers in
    let read = if_ok_at (λ records. had records c.args.budget.now new.budget) c.in_ok-read.read.records c.in_ok-records.records c.in_ok-records.was c.in_ok-read.ensures.read in
    read_room new.pass place place c.args.start (to_z w32 (of_z w32 c.args.wanted.now.replica)) c.args.wanted.now.asked.now looked.numbers c.in_ok-records.records c.args.budget.now new.budget c.read.ensures.seen.1 read
