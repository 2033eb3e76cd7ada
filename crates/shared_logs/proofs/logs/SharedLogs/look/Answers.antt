use Rattle.std.proofs.Common.{◌/◌, ap, set, subst, sym, ◌∙◌}
use Rattle.room_table.specs.Seats.{caller_now}
use Rattle.purgatory.proofs.Laws.{kept_same, stays}
use Rattle.shared_logs.specs.Asked.{HasLooked}
use Rattle.shared_logs.specs.Coming.{HasCaughtUp}
use Rattle.shared_logs.specs.Locked.{pass_view}
use Rattle.shared_logs.specs.Shared.{LogPassView}
use Rattle.shared_logs.proofs.Passes.{of_room, opens, part_caught_up, part_looked, part_pass, part_same, part_step, within}
use Rattle.shared_logs.proofs.Telling.{by_result, if_ok, on_err}
use Rattle.shared_logs.proofs.logs.SharedLogs.look.Goals as goal

pub look_into-requires : goal.look_into-requires
look_into-requires g c =
    let p = c.pass.inside in
    let s = c.self.inside in
    let part = (c.args.late.gauge / 3) in
    let made = ap (λ (v : LogPassView). v.made) c.pass.view_is ∙ c.requires.made ∙ sym c.self.view_is in
    let less = within s.room s.parts.items s.clock c.args.self.now part c.self.view_is c.requires.there in
    let lock = c.index.result.now in
    let old = c.index_mut.result.now in
    let o = opens p.number p.room p.parts.items p.clock p.moment p.ticked c.pass.invariant s.room s.parts.items s.clock made part lock old less c.index.ensures c.index_mut.ensures.value in
    record { key = (o.of_lock, o.ready, o.number_is ∙ ap (λ (v : LogPassView). v.number) c.pass.view_is ∙ sym c.requires.who) }

pub invariant_of-pass : goal.invariant_of-pass
invariant_of-pass g c =
    let p = c.pass.inside in
    let s = c.self.inside in
    let part = (c.args.late.gauge / 3) in
    let made = ap (λ (v : LogPassView). v.made) c.pass.view_is ∙ c.requires.made ∙ sym c.self.view_is in
    let less = within s.room s.parts.items s.clock c.args.self.now part c.self.view_is c.requires.there in
    let lock = c.index.result.now in
    let old = c.index_mut.result.now in
    let e = c.look_into.ensures in
    let r = c.look_into.result in
    let room = p.room in
    let new = c.look_into.new.key in
    let step = part_step p.number p.room p.parts.items p.clock p.moment p.ticked c.pass.invariant s.room s.parts.items s.clock made part lock old less c.index.ensures c.index_mut.ensures.value room new (of_room p.number p.room p.parts.items p.clock p.moment p.ticked c.pass.invariant s.room s.parts.items s.clock made) (stays p.room.seat) (kept_same (caller_now p.room.seat)) e.key.0 e.key.1 in
    let asked = e.looked in
    by_result r asked e.refused (λ x a. part_pass p.number p.room room p.parts.items p.clock p.moment p.ticked part old new step a.found a.left a.turn) (λ saw. part_pass p.number p.room room p.parts.items p.clock p.moment p.ticked part old new step saw.0 saw.0 saw.1)

pub returns-clause-seen : goal.returns-clause-seen
returns-clause-seen g c =
    let p = c.pass.inside in
    let s = c.self.inside in
    let part = (c.args.late.gauge / 3) in
    let made = ap (λ (v : LogPassView). v.made) c.pass.view_is ∙ c.requires.made ∙ sym c.self.view_is in
    let less = within s.room s.parts.items s.clock c.args.self.now part c.self.view_is c.requires.there in
    let lock = c.index.result.now in
    let old = c.index_mut.result.now in
    let e = c.look_into.ensures in
    let r = c.look_into.result in
    let room = p.room in
    let new = c.look_into.new.key in
    let step = part_step p.number p.room p.parts.items p.clock p.moment p.ticked c.pass.invariant s.room s.parts.items s.clock made part lock old less c.index.ensures c.index_mut.ensures.value room new (of_room p.number p.room p.parts.items p.clock p.moment p.ticked c.pass.invariant s.room s.parts.items s.clock made) (stays p.room.seat) (kept_same (caller_now p.room.seat)) e.key.0 e.key.1 in
    let asked = e.looked in
    (by_result r asked e.refused (λ x a. part_pass p.number p.room room p.parts.items p.clock p.moment p.ticked part old new step a.found a.left a.turn) (λ saw. part_pass p.number p.room room p.parts.items p.clock p.moment p.ticked part old new step saw.0 saw.0 saw.1)).seen

pub returns-clause-made : goal.returns-clause-made
returns-clause-made g c =
    let p = c.pass.inside in
    let s = c.self.inside in
    let part = (c.args.late.gauge / 3) in
    let made = ap (λ (v : LogPassView). v.made) c.pass.view_is ∙ c.requires.made ∙ sym c.self.view_is in
    let less = within s.room s.parts.items s.clock c.args.self.now part c.self.view_is c.requires.there in
    let lock = c.index.result.now in
    let old = c.index_mut.result.now in
    let e = c.look_into.ensures in
    let r = c.look_into.result in
    let room = p.room in
    let new = c.look_into.new.key in
    let step = part_step p.number p.room p.parts.items p.clock p.moment p.ticked c.pass.invariant s.room s.parts.items s.clock made part lock old less c.index.ensures c.index_mut.ensures.value room new (of_room p.number p.room p.parts.items p.clock p.moment p.ticked c.pass.invariant s.room s.parts.items s.clock made) (stays p.room.seat) (kept_same (caller_now p.room.seat)) e.key.0 e.key.1 in
    let asked = e.looked in
    by_result r asked e.refused (λ x a. (part_same p.number p.room room p.parts.items p.clock p.moment p.ticked part old new step a.found a.left a.turn).made) (λ saw. (part_same p.number p.room room p.parts.items p.clock p.moment p.ticked part old new step saw.0 saw.0 saw.1).made)
    ∙ ap (λ (v : LogPassView). v.made) c.pass.view_is ∙ c.requires.made

pub returns-clause-looked : goal.returns-clause-looked
returns-clause-looked g c =
    let p = c.pass.inside in
    let s = c.self.inside in
    let part = (c.args.late.gauge / 3) in
    let made = ap (λ (v : LogPassView). v.made) c.pass.view_is ∙ c.requires.made ∙ sym c.self.view_is in
    let less = within s.room s.parts.items s.clock c.args.self.now part c.self.view_is c.requires.there in
    let lock = c.index.result.now in
    let old = c.index_mut.result.now in
    let e = c.look_into.ensures in
    let r = c.look_into.result in
    let room = p.room in
    let new = c.look_into.new.key in
    let step = part_step p.number p.room p.parts.items p.clock p.moment p.ticked c.pass.invariant s.room s.parts.items s.clock made part lock old less c.index.ensures c.index_mut.ensures.value room new (of_room p.number p.room p.parts.items p.clock p.moment p.ticked c.pass.invariant s.room s.parts.items s.clock made) (stays p.room.seat) (kept_same (caller_now p.room.seat)) e.key.0 e.key.1 in
    let after = pass_view p.number room (set p.parts.items part new) p.clock in
    if_ok r e.looked
    (λ x a. subst (λ (v : LogPassView). HasLooked part c.args.who.seq c.args.late.gauge c.args.late.value v after x.place x.numbers) c.pass.view_is
    (part_looked p.number p.room room p.parts.items p.clock p.moment p.ticked part old new step a.found a.left a.turn c.args.who.seq c.args.late.gauge c.args.late.value x.place x.numbers a.entry a.place_is a.numbers_are a.late))

pub returns-clause-refused : goal.returns-clause-refused
returns-clause-refused g c =
    let p = c.pass.inside in
    let s = c.self.inside in
    let part = (c.args.late.gauge / 3) in
    let made = ap (λ (v : LogPassView). v.made) c.pass.view_is ∙ c.requires.made ∙ sym c.self.view_is in
    let less = within s.room s.parts.items s.clock c.args.self.now part c.self.view_is c.requires.there in
    let lock = c.index.result.now in
    let old = c.index_mut.result.now in
    let e = c.look_into.ensures in
    let r = c.look_into.result in
    let room = p.room in
    let new = c.look_into.new.key in
    let step = part_step p.number p.room p.parts.items p.clock p.moment p.ticked c.pass.invariant s.room s.parts.items s.clock made part lock old less c.index.ensures c.index_mut.ensures.value room new (of_room p.number p.room p.parts.items p.clock p.moment p.ticked c.pass.invariant s.room s.parts.items s.clock made) (stays p.room.seat) (kept_same (caller_now p.room.seat)) e.key.0 e.key.1 in
    let after = pass_view p.number room (set p.parts.items part new) p.clock in
    on_err r e.refused (λ saw. subst (λ (v : LogPassView). HasCaughtUp v after) c.pass.view_is (part_caught_up p.number p.room room p.parts.items p.clock p.moment p.ticked part old new step saw))
