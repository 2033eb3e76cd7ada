use Rattle.std.proofs.Common.{ap, subst, sym, ◌∙◌}
use Rattle.room_table.specs.Seats.{caller_now}
use Rattle.purgatory.proofs.Laws.{kept_same, stays}
use Rattle.shared_logs.specs.Asked.{HasLookedAtClock}
use Rattle.shared_logs.specs.Coming.{HasCaughtUp}
use Rattle.shared_logs.specs.Locked.{pass_view}
use Rattle.shared_logs.specs.Shared.{LogPassView}
use Rattle.shared_logs.proofs.Moments.{clock_caught_up, clock_looked, clock_step, looked_pass, saw_pass}
use Rattle.shared_logs.proofs.Passes.{of_room, opens_clock}
use Rattle.shared_logs.proofs.Telling.{any_err, err_is, ok_is}
use Rattle.shared_logs.proofs.logs.SharedLogs.look_at_clock.Goals as goal

pub look_up-place-requires : goal.look_up-place-requires
look_up-place-requires g c =
    let p = c.pass.inside in
    let s = c.self.inside in
    let made = ap (λ (v : LogPassView). v.made) c.pass.view_is ∙ c.requires.made ∙ sym c.self.view_is in
    let o = opens_clock p.number p.room p.parts.items p.clock p.moment p.ticked c.pass.invariant s.room s.parts.items s.clock made in
    record { key = (o.of_lock, o.ready, o.number_is ∙ ap (λ (v : LogPassView). v.number) c.pass.view_is ∙ sym c.requires.who) }

pub invariant_of-pass : goal.invariant_of-pass
invariant_of-pass g c =
    let p = c.pass.inside in
    let s = c.self.inside in
    let made = ap (λ (v : LogPassView). v.made) c.pass.view_is ∙ c.requires.made ∙ sym c.self.view_is in
    let e = c.look_up-place.ensures in
    let new = c.look_up-place.new.key in
    let step = clock_step p.number p.room p.parts.items p.clock p.moment p.ticked c.pass.invariant s.room s.parts.items s.clock made p.room new (of_room p.number p.room p.parts.items p.clock p.moment p.ticked c.pass.invariant s.room s.parts.items s.clock made) (stays p.room.seat) (kept_same (caller_now p.room.seat)) e.key.0 e.key.1 in
    let saw = err_is c.look_up-place.result.0 c.in_err-place.field-0.0 c.in_err-place.was e.refused in
    saw_pass p.number p.room p.room p.parts.items p.clock new p.moment p.ticked c.look_up-place.result.1 step e.moment saw

pub returns-in_err-place-clause-refused : goal.returns-in_err-place-clause-refused
returns-in_err-place-clause-refused g c =
    let p = c.pass.inside in
    let s = c.self.inside in
    let made = ap (λ (v : LogPassView). v.made) c.pass.view_is ∙ c.requires.made ∙ sym c.self.view_is in
    let e = c.look_up-place.ensures in
    let new = c.look_up-place.new.key in
    let step = clock_step p.number p.room p.parts.items p.clock p.moment p.ticked c.pass.invariant s.room s.parts.items s.clock made p.room new (of_room p.number p.room p.parts.items p.clock p.moment p.ticked c.pass.invariant s.room s.parts.items s.clock made) (stays p.room.seat) (kept_same (caller_now p.room.seat)) e.key.0 e.key.1 in
    let saw = err_is c.look_up-place.result.0 c.in_err-place.field-0.0 c.in_err-place.was e.refused in
    any_err c.from_residual.result (subst (λ (v : LogPassView). HasCaughtUp v (pass_view p.number p.room p.parts.items new)) c.pass.view_is (clock_caught_up p.number p.room p.room p.parts.items p.clock new p.moment p.ticked c.look_up-place.result.1 step e.moment saw))

pub invariant_of-pass-2 : goal.invariant_of-pass-2
invariant_of-pass-2 g c =
    let p = c.pass.inside in
    let s = c.self.inside in
    let made = ap (λ (v : LogPassView). v.made) c.pass.view_is ∙ c.requires.made ∙ sym c.self.view_is in
    let e = c.look_up-place.ensures in
    let new = c.look_up-place.new.key in
    let step = clock_step p.number p.room p.parts.items p.clock p.moment p.ticked c.pass.invariant s.room s.parts.items s.clock made p.room new (of_room p.number p.room p.parts.items p.clock p.moment p.ticked c.pass.invariant s.room s.parts.items s.clock made) (stays p.room.seat) (kept_same (caller_now p.room.seat)) e.key.0 e.key.1 in
    let place = c.in_ok-place.field-0 in
    let told = c.look_up-place.result.1 in
    looked_pass p.number p.room p.room p.parts.items p.clock new p.moment p.ticked c.look_up-place.result.1 step e.moment c.args.who.seq c.args.least place told (ok_is _ c.look_up-place.result.0 place c.in_ok-place.was e.looked)

pub returns-clause-looked : goal.returns-clause-looked
returns-clause-looked g c =
    let p = c.pass.inside in
    let s = c.self.inside in
    let made = ap (λ (v : LogPassView). v.made) c.pass.view_is ∙ c.requires.made ∙ sym c.self.view_is in
    let e = c.look_up-place.ensures in
    let new = c.look_up-place.new.key in
    let step = clock_step p.number p.room p.parts.items p.clock p.moment p.ticked c.pass.invariant s.room s.parts.items s.clock made p.room new (of_room p.number p.room p.parts.items p.clock p.moment p.ticked c.pass.invariant s.room s.parts.items s.clock made) (stays p.room.seat) (kept_same (caller_now p.room.seat)) e.key.0 e.key.1 in
    let place = c.in_ok-place.field-0 in
    let told = c.look_up-place.result.1 in
    subst (λ (v : LogPassView). HasLookedAtClock c.args.who.seq c.args.least v (pass_view p.number p.room p.parts.items new) place told) c.pass.view_is
    (clock_looked p.number p.room p.room p.parts.items p.clock new p.moment p.ticked c.look_up-place.result.1 step e.moment c.args.who.seq c.args.least place told (ok_is _ c.look_up-place.result.0 place c.in_ok-place.was e.looked))

pub returns-in_err-place-clause-seen : goal.returns-in_err-place-clause-seen
returns-in_err-place-clause-seen g c =
    let p = c.pass.inside in
    let s = c.self.inside in
    let made = ap (λ (v : LogPassView). v.made) c.pass.view_is ∙ c.requires.made ∙ sym c.self.view_is in
    let e = c.look_up-place.ensures in
    let new = c.look_up-place.new.key in
    let step = clock_step p.number p.room p.parts.items p.clock p.moment p.ticked c.pass.invariant s.room s.parts.items s.clock made p.room new (of_room p.number p.room p.parts.items p.clock p.moment p.ticked c.pass.invariant s.room s.parts.items s.clock made) (stays p.room.seat) (kept_same (caller_now p.room.seat)) e.key.0 e.key.1 in
    let saw = err_is c.look_up-place.result.0 c.in_err-place.field-0.0 c.in_err-place.was e.refused in
    (saw_pass p.number p.room p.room p.parts.items p.clock new p.moment p.ticked c.look_up-place.result.1 step e.moment saw).seen

pub returns-clause-seen : goal.returns-clause-seen
returns-clause-seen g c =
    let p = c.pass.inside in
    let s = c.self.inside in
    let made = ap (λ (v : LogPassView). v.made) c.pass.view_is ∙ c.requires.made ∙ sym c.self.view_is in
    let e = c.look_up-place.ensures in
    let new = c.look_up-place.new.key in
    let step = clock_step p.number p.room p.parts.items p.clock p.moment p.ticked c.pass.invariant s.room s.parts.items s.clock made p.room new (of_room p.number p.room p.parts.items p.clock p.moment p.ticked c.pass.invariant s.room s.parts.items s.clock made) (stays p.room.seat) (kept_same (caller_now p.room.seat)) e.key.0 e.key.1 in
    let place = c.in_ok-place.field-0 in
    let told = c.look_up-place.result.1 in
    (looked_pass p.number p.room p.room p.parts.items p.clock new p.moment p.ticked c.look_up-place.result.1 step e.moment c.args.who.seq c.args.least place told (ok_is _ c.look_up-place.result.0 place c.in_ok-place.was e.looked)).seen
