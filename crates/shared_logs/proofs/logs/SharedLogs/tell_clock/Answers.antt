use Rattle.std.proofs.Common.{◌≤◌, ◌<◌, Bool, ap, arith, cond, subst, sym, ◌∙◌}
use Rattle.std.specs.Prelude.{◌↔◌, IsTrue}
use Rattle.partlog.specs.Moment.{moment_of}
use Rattle.shared_logs.specs.Asked.{HasTicked}
use Rattle.shared_logs.specs.Coming.{HasCaughtUp}
use Rattle.shared_logs.specs.Locked.{IsLogPass, pass_view}
use Rattle.shared_logs.specs.Seen.{HasSeen}
use Rattle.shared_logs.specs.Shared.{LogPassView}
use Rattle.shared_logs.proofs.Moments.{clock_caught_up, clock_step, clock_told, saw_pass, told_nothing, told_pass}
use Rattle.shared_logs.proofs.Passes.{opens_clock}
use Rattle.shared_logs.proofs.Telling.{any_err, err_is, ok_is}
use Rattle.shared_logs.proofs.logs.SharedLogs.tell_clock.Goals as goal

pub returns-then-t-pass-clause-told : goal.returns-then-t-pass-clause-told
returns-then-t-pass-clause-told g c =
    let past = c.if-t-pass.true in
    let moment = c.pass.invariant.moment_is in
    told_nothing c.args.pass.now c.args.t (subst (λ (v : LogPassView). c.args.t ≤ moment_of v.clock) c.pass.view_is (omega (arith, past, moment)))

pub tick_to-rose-requires-clause-key : goal.tick_to-rose-requires-clause-key
tick_to-rose-requires-clause-key g c =
    let p = c.pass.inside in
    let s = c.self.inside in
    let made = ap (λ (v : LogPassView). v.made) c.pass.view_is ∙ c.requires.made ∙ sym c.self.view_is in
    opens_clock p.number p.room p.parts.items p.clock p.moment p.ticked c.pass.invariant s.room s.parts.items s.clock made

pub invariant_of-pass : goal.invariant_of-pass
invariant_of-pass g c =
    let p = c.pass.inside in
    let s = c.self.inside in
    let made = ap (λ (v : LogPassView). v.made) c.pass.view_is ∙ c.requires.made ∙ sym c.self.view_is in
    let e = c.tick_to-rose.ensures in
    let new = c.tick_to-rose.new.key in
    let step = clock_step p.number p.room p.parts.items p.clock p.moment p.ticked c.pass.invariant s.room s.parts.items s.clock made c.tick_to-rose.new.pass new e.room e.went e.kept e.key.of_lock e.key.ready in
    let saw = err_is c.tick_to-rose.result.0 c.in_err-rose.field-0.0 c.in_err-rose.was e.refused in
    saw_pass p.number p.room c.tick_to-rose.new.pass p.parts.items p.clock new p.moment p.ticked c.tick_to-rose.result.1 step e.moment saw

pub returns-in_err-rose-clause-refused : goal.returns-in_err-rose-clause-refused
returns-in_err-rose-clause-refused g c =
    let p = c.pass.inside in
    let s = c.self.inside in
    let made = ap (λ (v : LogPassView). v.made) c.pass.view_is ∙ c.requires.made ∙ sym c.self.view_is in
    let e = c.tick_to-rose.ensures in
    let new = c.tick_to-rose.new.key in
    let step = clock_step p.number p.room p.parts.items p.clock p.moment p.ticked c.pass.invariant s.room s.parts.items s.clock made c.tick_to-rose.new.pass new e.room e.went e.kept e.key.of_lock e.key.ready in
    let saw = err_is c.tick_to-rose.result.0 c.in_err-rose.field-0.0 c.in_err-rose.was e.refused in
    any_err c.from_residual.result (subst (λ (v : LogPassView). HasCaughtUp v (pass_view p.number c.tick_to-rose.new.pass p.parts.items new)) c.pass.view_is (clock_caught_up p.number p.room c.tick_to-rose.new.pass p.parts.items p.clock new p.moment p.ticked c.tick_to-rose.result.1 step e.moment saw))

pub invariant_of-pass-then-branch : goal.invariant_of-pass-then-branch
invariant_of-pass-then-branch g c =
    let p = c.pass.inside in
    let s = c.self.inside in
    let made = ap (λ (v : LogPassView). v.made) c.pass.view_is ∙ c.requires.made ∙ sym c.self.view_is in
    let e = c.tick_to-rose.ensures in
    let new = c.tick_to-rose.new.key in
    let step = clock_step p.number p.room p.parts.items p.clock p.moment p.ticked c.pass.invariant s.room s.parts.items s.clock made c.tick_to-rose.new.pass new e.room e.went e.kept e.key.of_lock e.key.ready in
    let d = ok_is _ c.tick_to-rose.result.0 c.in_ok-rose.field-0 c.in_ok-rose.was e.told in
    subst (λ (b : Bool). IsLogPass p.number c.tick_to-rose.new.pass p.parts.items new c.tick_to-rose.result.1 (cond b c.args.t p.ticked)) c.if-branch.true
    (told_pass p.number p.room c.tick_to-rose.new.pass p.parts.items p.clock new p.moment p.ticked c.tick_to-rose.result.1 step e.moment c.args.t c.in_ok-rose.field-0 d)

pub returns-then-branch-clause-told : goal.returns-then-branch-clause-told
returns-then-branch-clause-told g c =
    let p = c.pass.inside in
    let s = c.self.inside in
    let made = ap (λ (v : LogPassView). v.made) c.pass.view_is ∙ c.requires.made ∙ sym c.self.view_is in
    let e = c.tick_to-rose.ensures in
    let new = c.tick_to-rose.new.key in
    let step = clock_step p.number p.room p.parts.items p.clock p.moment p.ticked c.pass.invariant s.room s.parts.items s.clock made c.tick_to-rose.new.pass new e.room e.went e.kept e.key.of_lock e.key.ready in
    let d = ok_is _ c.tick_to-rose.result.0 c.in_ok-rose.field-0 c.in_ok-rose.was e.told in
    let after = pass_view p.number c.tick_to-rose.new.pass p.parts.items new in
    subst (λ (b : Bool). (told : HasTicked c.args.t c.args.pass.now after) × (IsTrue b ↔ (moment_of told.found < c.args.t))) c.if-branch.true
    (subst (λ (v : LogPassView). (told : HasTicked c.args.t v after) × (IsTrue c.in_ok-rose.field-0 ↔ (moment_of told.found < c.args.t))) c.pass.view_is
    (clock_told p.number p.room c.tick_to-rose.new.pass p.parts.items p.clock new p.moment p.ticked c.tick_to-rose.result.1 step e.moment c.args.t c.in_ok-rose.field-0 d))

pub invariant_of-pass-else-branch : goal.invariant_of-pass-else-branch
invariant_of-pass-else-branch g c =
    let p = c.pass.inside in
    let s = c.self.inside in
    let made = ap (λ (v : LogPassView). v.made) c.pass.view_is ∙ c.requires.made ∙ sym c.self.view_is in
    let e = c.tick_to-rose.ensures in
    let new = c.tick_to-rose.new.key in
    let step = clock_step p.number p.room p.parts.items p.clock p.moment p.ticked c.pass.invariant s.room s.parts.items s.clock made c.tick_to-rose.new.pass new e.room e.went e.kept e.key.of_lock e.key.ready in
    let d = ok_is _ c.tick_to-rose.result.0 c.in_ok-rose.field-0 c.in_ok-rose.was e.told in
    subst (λ (b : Bool). IsLogPass p.number c.tick_to-rose.new.pass p.parts.items new c.tick_to-rose.result.1 (cond b c.args.t p.ticked)) c.if-branch.false
    (told_pass p.number p.room c.tick_to-rose.new.pass p.parts.items p.clock new p.moment p.ticked c.tick_to-rose.result.1 step e.moment c.args.t c.in_ok-rose.field-0 d)

pub returns-else-branch-clause-told : goal.returns-else-branch-clause-told
returns-else-branch-clause-told g c =
    let p = c.pass.inside in
    let s = c.self.inside in
    let made = ap (λ (v : LogPassView). v.made) c.pass.view_is ∙ c.requires.made ∙ sym c.self.view_is in
    let e = c.tick_to-rose.ensures in
    let new = c.tick_to-rose.new.key in
    let step = clock_step p.number p.room p.parts.items p.clock p.moment p.ticked c.pass.invariant s.room s.parts.items s.clock made c.tick_to-rose.new.pass new e.room e.went e.kept e.key.of_lock e.key.ready in
    let d = ok_is _ c.tick_to-rose.result.0 c.in_ok-rose.field-0 c.in_ok-rose.was e.told in
    let after = pass_view p.number c.tick_to-rose.new.pass p.parts.items new in
    subst (λ (b : Bool). (told : HasTicked c.args.t c.args.pass.now after) × (IsTrue b ↔ (moment_of told.found < c.args.t))) c.if-branch.false
    (subst (λ (v : LogPassView). (told : HasTicked c.args.t v after) × (IsTrue c.in_ok-rose.field-0 ↔ (moment_of told.found < c.args.t))) c.pass.view_is
    (clock_told p.number p.room c.tick_to-rose.new.pass p.parts.items p.clock new p.moment p.ticked c.tick_to-rose.result.1 step e.moment c.args.t c.in_ok-rose.field-0 d))

pub returns-then-t-pass-clause-seen : goal.returns-then-t-pass-clause-seen
returns-then-t-pass-clause-seen g c =
    let was = subst HasSeen c.pass.view_is c.pass.invariant.seen in
    (was, was)

pub returns-in_err-rose-clause-seen : goal.returns-in_err-rose-clause-seen
returns-in_err-rose-clause-seen g c =
    let p = c.pass.inside in
    let s = c.self.inside in
    let made = ap (λ (v : LogPassView). v.made) c.pass.view_is ∙ c.requires.made ∙ sym c.self.view_is in
    let e = c.tick_to-rose.ensures in
    let new = c.tick_to-rose.new.key in
    let step = clock_step p.number p.room p.parts.items p.clock p.moment p.ticked c.pass.invariant s.room s.parts.items s.clock made c.tick_to-rose.new.pass new e.room e.went e.kept e.key.of_lock e.key.ready in
    let saw = err_is c.tick_to-rose.result.0 c.in_err-rose.field-0.0 c.in_err-rose.was e.refused in
    (subst HasSeen c.pass.view_is c.pass.invariant.seen, (saw_pass p.number p.room c.tick_to-rose.new.pass p.parts.items p.clock new p.moment p.ticked c.tick_to-rose.result.1 step e.moment saw).seen)

pub returns-then-branch-clause-seen : goal.returns-then-branch-clause-seen
returns-then-branch-clause-seen g c =
    let p = c.pass.inside in
    let s = c.self.inside in
    let made = ap (λ (v : LogPassView). v.made) c.pass.view_is ∙ c.requires.made ∙ sym c.self.view_is in
    let e = c.tick_to-rose.ensures in
    let new = c.tick_to-rose.new.key in
    let step = clock_step p.number p.room p.parts.items p.clock p.moment p.ticked c.pass.invariant s.room s.parts.items s.clock made c.tick_to-rose.new.pass new e.room e.went e.kept e.key.of_lock e.key.ready in
    let d = ok_is _ c.tick_to-rose.result.0 c.in_ok-rose.field-0 c.in_ok-rose.was e.told in
    (subst HasSeen c.pass.view_is c.pass.invariant.seen, (told_pass p.number p.room c.tick_to-rose.new.pass p.parts.items p.clock new p.moment p.ticked c.tick_to-rose.result.1 step e.moment c.args.t c.in_ok-rose.field-0 d).seen)

pub returns-else-branch-clause-seen : goal.returns-else-branch-clause-seen
returns-else-branch-clause-seen g c =
    let p = c.pass.inside in
    let s = c.self.inside in
    let made = ap (λ (v : LogPassView). v.made) c.pass.view_is ∙ c.requires.made ∙ sym c.self.view_is in
    let e = c.tick_to-rose.ensures in
    let new = c.tick_to-rose.new.key in
    let step = clock_step p.number p.room p.parts.items p.clock p.moment p.ticked c.pass.invariant s.room s.parts.items s.clock made c.tick_to-rose.new.pass new e.room e.went e.kept e.key.of_lock e.key.ready in
    let d = ok_is _ c.tick_to-rose.result.0 c.in_ok-rose.field-0 c.in_ok-rose.was e.told in
    (subst HasSeen c.pass.view_is c.pass.invariant.seen, (told_pass p.number p.room c.tick_to-rose.new.pass p.parts.items p.clock new p.moment p.ticked c.tick_to-rose.result.1 step e.moment c.args.t c.in_ok-rose.field-0 d).seen)
