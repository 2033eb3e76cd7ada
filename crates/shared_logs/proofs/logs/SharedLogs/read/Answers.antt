use Rattle.std.proofs.Common.{◌/◌, ap, rules, set, subst, sym, ◌∙◌}
use Rattle.std.specs.Prelude.{IfOk}
use Rattle.partlog.specs.History.{History}
use Rattle.partlog.specs.State.{state_of}
use Rattle.kanswer.specs.declared.accepted.Accepted.TheVariants.{Seen}
use Rattle.room_table.specs.Seats.{caller_now}
use Rattle.purgatory.proofs.Laws.{kept_same, stays}
use Rattle.shared_logs.specs.Asked.{HasLooked, HasRead}
use Rattle.shared_logs.specs.Coming.{HasCaughtUp}
use Rattle.shared_logs.specs.Locked.{pass_view, seen_part}
use Rattle.shared_logs.specs.Shared.{LogPassView}
use Rattle.shared_logs.proofs.Passes.{of_room, opens, part_caught_up, part_looked, part_pass, part_same, part_step, seen_at, within}
use Rattle.shared_logs.proofs.Telling.{by_result, if_ok, on_err}
use Rattle.shared_logs.proofs.logs.SharedLogs.read.Goals as goal

pub read_from-requires : goal.read_from-requires
read_from-requires g c =
    let p = c.pass.inside in
    let s = c.self.inside in
    let part = (c.args.rest.now.late.gauge / 3) in
    let made = ap (λ (v : LogPassView). v.made) c.pass.view_is ∙ c.requires.made ∙ sym c.self.view_is in
    let less = within s.room s.parts.items s.clock c.args.self.now part c.self.view_is c.requires.there in
    let lock = c.index.result.now in
    let old = c.index_mut.result.now in
    let o = opens p.number p.room p.parts.items p.clock p.moment p.ticked c.pass.invariant s.room s.parts.items s.clock made part lock old less c.index.ensures c.index_mut.ensures.value in
    record { key = (o.of_lock, o.ready, o.number_is ∙ ap (λ (v : LogPassView). v.number) c.pass.view_is ∙ sym c.requires.who) }

pub invariant_of-pass : goal.invariant_of-pass
invariant_of-pass g c =
    let p = c.pass.inside in
    let s = c.self.inside in
    let part = (c.args.rest.now.late.gauge / 3) in
    let made = ap (λ (v : LogPassView). v.made) c.pass.view_is ∙ c.requires.made ∙ sym c.self.view_is in
    let less = within s.room s.parts.items s.clock c.args.self.now part c.self.view_is c.requires.there in
    let lock = c.index.result.now in
    let old = c.index_mut.result.now in
    let e = c.read_from.ensures in
    let r = c.read_from.result in
    let room = p.room in
    let new = c.read_from.new.key in
    let step = part_step p.number p.room p.parts.items p.clock p.moment p.ticked c.pass.invariant s.room s.parts.items s.clock made part lock old less c.index.ensures c.index_mut.ensures.value room new (of_room p.number p.room p.parts.items p.clock p.moment p.ticked c.pass.invariant s.room s.parts.items s.clock made) (stays p.room.seat) (kept_same (caller_now p.room.seat)) e.key.0 e.key.1 in
    let asked = e.looked in
    by_result r asked e.refused (λ x a. part_pass p.number p.room room p.parts.items p.clock p.moment p.ticked part old new step a.found a.left a.turn) (λ saw. part_pass p.number p.room room p.parts.items p.clock p.moment p.ticked part old new step saw.0 saw.0 saw.1)

pub returns-clause-seen : goal.returns-clause-seen
returns-clause-seen g c =
    let p = c.pass.inside in
    let s = c.self.inside in
    let part = (c.args.rest.now.late.gauge / 3) in
    let made = ap (λ (v : LogPassView). v.made) c.pass.view_is ∙ c.requires.made ∙ sym c.self.view_is in
    let less = within s.room s.parts.items s.clock c.args.self.now part c.self.view_is c.requires.there in
    let lock = c.index.result.now in
    let old = c.index_mut.result.now in
    let e = c.read_from.ensures in
    let r = c.read_from.result in
    let room = p.room in
    let new = c.read_from.new.key in
    let step = part_step p.number p.room p.parts.items p.clock p.moment p.ticked c.pass.invariant s.room s.parts.items s.clock made part lock old less c.index.ensures c.index_mut.ensures.value room new (of_room p.number p.room p.parts.items p.clock p.moment p.ticked c.pass.invariant s.room s.parts.items s.clock made) (stays p.room.seat) (kept_same (caller_now p.room.seat)) e.key.0 e.key.1 in
    let asked = e.looked in
    (by_result r asked e.refused (λ x a. part_pass p.number p.room room p.parts.items p.clock p.moment p.ticked part old new step a.found a.left a.turn) (λ saw. part_pass p.number p.room room p.parts.items p.clock p.moment p.ticked part old new step saw.0 saw.0 saw.1)).seen

pub returns-clause-made : goal.returns-clause-made
returns-clause-made g c =
    let p = c.pass.inside in
    let s = c.self.inside in
    let part = (c.args.rest.now.late.gauge / 3) in
    let made = ap (λ (v : LogPassView). v.made) c.pass.view_is ∙ c.requires.made ∙ sym c.self.view_is in
    let less = within s.room s.parts.items s.clock c.args.self.now part c.self.view_is c.requires.there in
    let lock = c.index.result.now in
    let old = c.index_mut.result.now in
    let e = c.read_from.ensures in
    let r = c.read_from.result in
    let room = p.room in
    let new = c.read_from.new.key in
    let step = part_step p.number p.room p.parts.items p.clock p.moment p.ticked c.pass.invariant s.room s.parts.items s.clock made part lock old less c.index.ensures c.index_mut.ensures.value room new (of_room p.number p.room p.parts.items p.clock p.moment p.ticked c.pass.invariant s.room s.parts.items s.clock made) (stays p.room.seat) (kept_same (caller_now p.room.seat)) e.key.0 e.key.1 in
    let asked = e.looked in
    by_result r asked e.refused (λ x a. (part_same p.number p.room room p.parts.items p.clock p.moment p.ticked part old new step a.found a.left a.turn).made) (λ saw. (part_same p.number p.room room p.parts.items p.clock p.moment p.ticked part old new step saw.0 saw.0 saw.1).made)
    ∙ ap (λ (v : LogPassView). v.made) c.pass.view_is ∙ c.requires.made

pub returns-clause-looked : goal.returns-clause-looked
returns-clause-looked g c =
    let p = c.pass.inside in
    let s = c.self.inside in
    let part = (c.args.rest.now.late.gauge / 3) in
    let made = ap (λ (v : LogPassView). v.made) c.pass.view_is ∙ c.requires.made ∙ sym c.self.view_is in
    let less = within s.room s.parts.items s.clock c.args.self.now part c.self.view_is c.requires.there in
    let lock = c.index.result.now in
    let old = c.index_mut.result.now in
    let e = c.read_from.ensures in
    let r = c.read_from.result in
    let room = p.room in
    let new = c.read_from.new.key in
    let step = part_step p.number p.room p.parts.items p.clock p.moment p.ticked c.pass.invariant s.room s.parts.items s.clock made part lock old less c.index.ensures c.index_mut.ensures.value room new (of_room p.number p.room p.parts.items p.clock p.moment p.ticked c.pass.invariant s.room s.parts.items s.clock made) (stays p.room.seat) (kept_same (caller_now p.room.seat)) e.key.0 e.key.1 in
    let after = pass_view p.number room (set p.parts.items part new) p.clock in
    if_ok r e.looked
    (λ x a. subst (λ (v : LogPassView). HasLooked part c.args.who.seq c.args.rest.now.late.gauge c.args.rest.now.late.value v after x.looked.place x.looked.numbers) c.pass.view_is
    (part_looked p.number p.room room p.parts.items p.clock p.moment p.ticked part old new step a.found a.left a.turn c.args.who.seq c.args.rest.now.late.gauge c.args.rest.now.late.value x.looked.place x.looked.numbers a.entry a.place_is a.numbers_are a.late))

pub returns-clause-read : goal.returns-clause-read
returns-clause-read g c =
    let p = c.pass.inside in
    let s = c.self.inside in
    let part = (c.args.rest.now.late.gauge / 3) in
    let made = ap (λ (v : LogPassView). v.made) c.pass.view_is ∙ c.requires.made ∙ sym c.self.view_is in
    let less = within s.room s.parts.items s.clock c.args.self.now part c.self.view_is c.requires.there in
    let lock = c.index.result.now in
    let old = c.index_mut.result.now in
    let e = c.read_from.ensures in
    let r = c.read_from.result in
    let room = p.room in
    let new = c.read_from.new.key in
    let step = part_step p.number p.room p.parts.items p.clock p.moment p.ticked c.pass.invariant s.room s.parts.items s.clock made part lock old less c.index.ensures c.index_mut.ensures.value room new (of_room p.number p.room p.parts.items p.clock p.moment p.ticked c.pass.invariant s.room s.parts.items s.clock made) (stays p.room.seat) (kept_same (caller_now p.room.seat)) e.key.0 e.key.1 in
    let read : IfOk r (λ x. IfOk x.records (λ records. HasRead c.args.rest.now.replica c.args.rest.now.asked.now (Seen part c.args.rest.now.start) (state_of (seen_part new)) x.looked.numbers records c.args.budget.now c.read_from.new.budget)) = search rules in
    subst
    (λ (h : History). IfOk r (λ x. IfOk x.records (λ records. HasRead c.args.rest.now.replica c.args.rest.now.asked.now (Seen part c.args.rest.now.start) (state_of h) x.looked.numbers records c.args.budget.now c.read_from.new.budget)))
    (sym (seen_at p.parts.items part new step.less)) read

pub returns-clause-refused : goal.returns-clause-refused
returns-clause-refused g c =
    let p = c.pass.inside in
    let s = c.self.inside in
    let part = (c.args.rest.now.late.gauge / 3) in
    let made = ap (λ (v : LogPassView). v.made) c.pass.view_is ∙ c.requires.made ∙ sym c.self.view_is in
    let less = within s.room s.parts.items s.clock c.args.self.now part c.self.view_is c.requires.there in
    let lock = c.index.result.now in
    let old = c.index_mut.result.now in
    let e = c.read_from.ensures in
    let r = c.read_from.result in
    let room = p.room in
    let new = c.read_from.new.key in
    let step = part_step p.number p.room p.parts.items p.clock p.moment p.ticked c.pass.invariant s.room s.parts.items s.clock made part lock old less c.index.ensures c.index_mut.ensures.value room new (of_room p.number p.room p.parts.items p.clock p.moment p.ticked c.pass.invariant s.room s.parts.items s.clock made) (stays p.room.seat) (kept_same (caller_now p.room.seat)) e.key.0 e.key.1 in
    let after = pass_view p.number room (set p.parts.items part new) p.clock in
    on_err r e.refused (λ saw. subst (λ (v : LogPassView). HasCaughtUp v after) c.pass.view_is (part_caught_up p.number p.room room p.parts.items p.clock p.moment p.ticked part old new step saw))
