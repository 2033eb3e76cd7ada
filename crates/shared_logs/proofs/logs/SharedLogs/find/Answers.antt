use Rattle.std.proofs.Common.{ap, set, subst, sym, ◌∙◌}
use Rattle.partlog.specs.History.{History}
use Rattle.room_table.specs.Seats.{caller_now}
use Rattle.purgatory.proofs.Laws.{kept_same, stays}
use Rattle.shared_logs.specs.Coming.{HasCaughtUp}
use Rattle.shared_logs.specs.Locked.{pass_view}
use Rattle.shared_logs.specs.Seen.{HasSeen}
use Rattle.shared_logs.specs.Shared.{LogPassView}
use Rattle.shared_logs.specs.Sought.{HasSought}
use Rattle.shared_logs.proofs.Passes.{of_room, opens, part_caught_up, part_pass, part_same, part_step, seen_at, within}
use Rattle.shared_logs.proofs.logs.SharedLogs.find.Goals as goal

pub find_in-requires : goal.find_in-requires
find_in-requires g c =
    let p = c.pass.inside in
    let s = c.self.inside in
    let made = ap (λ (v : LogPassView). v.made) c.pass.view_is ∙ c.requires.made ∙ sym c.self.view_is in
    let less = within s.room s.parts.items s.clock c.args.self.now c.args.part c.self.view_is c.requires.there in
    let o = opens p.number p.room p.parts.items p.clock p.moment p.ticked c.pass.invariant s.room s.parts.items s.clock made c.args.part c.index.result.now c.index_mut.result.now less c.index.ensures c.index_mut.ensures.value in
    record { key = (o.of_lock, o.ready) }

pub invariant_of-pass : goal.invariant_of-pass
invariant_of-pass g c =
    let p = c.pass.inside in
    let s = c.self.inside in
    let part = c.args.part in
    let made = ap (λ (v : LogPassView). v.made) c.pass.view_is ∙ c.requires.made ∙ sym c.self.view_is in
    let less = within s.room s.parts.items s.clock c.args.self.now part c.self.view_is c.requires.there in
    let old = c.index_mut.result.now in
    let new = c.find_in.new.key in
    let e = c.find_in.ensures in
    let room = of_room p.number p.room p.parts.items p.clock p.moment p.ticked c.pass.invariant s.room s.parts.items s.clock made in
    let step = part_step p.number p.room p.parts.items p.clock p.moment p.ticked c.pass.invariant s.room s.parts.items s.clock made part c.index.result.now old less c.index.ensures c.index_mut.ensures.value
    p.room new room (stays p.room.seat) (kept_same (caller_now p.room.seat)) e.key.0 e.key.1 in
    part_pass p.number p.room p.room p.parts.items p.clock p.moment p.ticked part old new step e.saw.0 e.saw.0 e.saw.1

pub returns-clause-made : goal.returns-clause-made
returns-clause-made g c =
    let p = c.pass.inside in
    let s = c.self.inside in
    let part = c.args.part in
    let made = ap (λ (v : LogPassView). v.made) c.pass.view_is ∙ c.requires.made ∙ sym c.self.view_is in
    let less = within s.room s.parts.items s.clock c.args.self.now part c.self.view_is c.requires.there in
    let old = c.index_mut.result.now in
    let new = c.find_in.new.key in
    let e = c.find_in.ensures in
    let room = of_room p.number p.room p.parts.items p.clock p.moment p.ticked c.pass.invariant s.room s.parts.items s.clock made in
    let step = part_step p.number p.room p.parts.items p.clock p.moment p.ticked c.pass.invariant s.room s.parts.items s.clock made part c.index.result.now old less c.index.ensures c.index_mut.ensures.value
    p.room new room (stays p.room.seat) (kept_same (caller_now p.room.seat)) e.key.0 e.key.1 in
    (part_same p.number p.room p.room p.parts.items p.clock p.moment p.ticked part old new step e.saw.0 e.saw.0 e.saw.1).made ∙ ap (λ (v : LogPassView). v.made) c.pass.view_is ∙ c.requires.made

pub returns-clause-seen : goal.returns-clause-seen
returns-clause-seen g c =
    let p = c.pass.inside in
    let s = c.self.inside in
    let part = c.args.part in
    let made = ap (λ (v : LogPassView). v.made) c.pass.view_is ∙ c.requires.made ∙ sym c.self.view_is in
    let less = within s.room s.parts.items s.clock c.args.self.now part c.self.view_is c.requires.there in
    let old = c.index_mut.result.now in
    let new = c.find_in.new.key in
    let e = c.find_in.ensures in
    let room = of_room p.number p.room p.parts.items p.clock p.moment p.ticked c.pass.invariant s.room s.parts.items s.clock made in
    let step = part_step p.number p.room p.parts.items p.clock p.moment p.ticked c.pass.invariant s.room s.parts.items s.clock made part c.index.result.now old less c.index.ensures c.index_mut.ensures.value
    p.room new room (stays p.room.seat) (kept_same (caller_now p.room.seat)) e.key.0 e.key.1 in
    (subst HasSeen c.pass.view_is c.pass.invariant.seen, (part_pass p.number p.room p.room p.parts.items p.clock p.moment p.ticked part old new step e.saw.0 e.saw.0 e.saw.1).seen)

pub returns-clause-others : goal.returns-clause-others
returns-clause-others g c =
    let p = c.pass.inside in
    let s = c.self.inside in
    let part = c.args.part in
    let made = ap (λ (v : LogPassView). v.made) c.pass.view_is ∙ c.requires.made ∙ sym c.self.view_is in
    let less = within s.room s.parts.items s.clock c.args.self.now part c.self.view_is c.requires.there in
    let old = c.index_mut.result.now in
    let new = c.find_in.new.key in
    let e = c.find_in.ensures in
    let room = of_room p.number p.room p.parts.items p.clock p.moment p.ticked c.pass.invariant s.room s.parts.items s.clock made in
    let step = part_step p.number p.room p.parts.items p.clock p.moment p.ticked c.pass.invariant s.room s.parts.items s.clock made part c.index.result.now old less c.index.ensures c.index_mut.ensures.value
    p.room new room (stays p.room.seat) (kept_same (caller_now p.room.seat)) e.key.0 e.key.1 in
    let after = pass_view p.number p.room (set p.parts.items part new) p.clock in
    subst (λ (v : LogPassView). HasCaughtUp v after) c.pass.view_is (part_caught_up p.number p.room p.room p.parts.items p.clock p.moment p.ticked part old new step e.saw)

pub returns-clause-sought : goal.returns-clause-sought
returns-clause-sought g c =
    let p = c.pass.inside in
    let s = c.self.inside in
    let part = c.args.part in
    let made = ap (λ (v : LogPassView). v.made) c.pass.view_is ∙ c.requires.made ∙ sym c.self.view_is in
    let less = within s.room s.parts.items s.clock c.args.self.now part c.self.view_is c.requires.there in
    let old = c.index_mut.result.now in
    let new = c.find_in.new.key in
    let e = c.find_in.ensures in
    let room = of_room p.number p.room p.parts.items p.clock p.moment p.ticked c.pass.invariant s.room s.parts.items s.clock made in
    let step = part_step p.number p.room p.parts.items p.clock p.moment p.ticked c.pass.invariant s.room s.parts.items s.clock made part c.index.result.now old less c.index.ensures c.index_mut.ensures.value
    p.room new room (stays p.room.seat) (kept_same (caller_now p.room.seat)) e.key.0 e.key.1 in
    subst (λ (h : History). HasSought c.args.offset c.args.bytes.now h c.find_in.result) (sym (seen_at p.parts.items part new step.less)) e.sought
