use Rattle.std.proofs.Common.{ap, set, subst, sym, ◌∙◌}
use Rattle.std.specs.Prelude.{OnOk}
use Rattle.partlog.specs.History.{History}
use Rattle.partlog.specs.Lagging.{NoneLags}
use Rattle.shared_logs.specs.Locked.{pass_view}
use Rattle.shared_logs.specs.Shared.{LogPassView}
use Rattle.shared_logs.specs.Shrinking.{HasShrunkOne}
use Rattle.shared_logs.proofs.Passes.{opens, part_pass, part_same, part_shrunk, part_step, seen_at, within}
use Rattle.shared_logs.proofs.logs.SharedLogs.shrink.Goals as goal

pub shrink_in-requires-clause-key : goal.shrink_in-requires-clause-key
shrink_in-requires-clause-key g c =
    let p = c.pass.inside in
    let s = c.self.inside in
    let part = c.args.at in
    let made = ap (λ (v : LogPassView). v.made) c.pass.view_is ∙ c.requires.made ∙ sym c.self.view_is in
    let less = within s.room s.parts.items s.clock c.args.self.now part c.self.view_is c.requires.there in
    let lock = c.index.result.now in
    let old = c.index_mut.result.now in
    (part, opens p.number p.room p.parts.items p.clock p.moment p.ticked c.pass.invariant s.room s.parts.items s.clock made part lock old less c.index.ensures c.index_mut.ensures.value)

pub invariant_of-pass : goal.invariant_of-pass
invariant_of-pass g c =
    let p = c.pass.inside in
    let s = c.self.inside in
    let part = c.args.at in
    let made = ap (λ (v : LogPassView). v.made) c.pass.view_is ∙ c.requires.made ∙ sym c.self.view_is in
    let less = within s.room s.parts.items s.clock c.args.self.now part c.self.view_is c.requires.there in
    let lock = c.index.result.now in
    let old = c.index_mut.result.now in
    let e = c.shrink_in.ensures in
    let r = c.shrink_in.result in
    let room = c.shrink_in.new.pass in
    let new = c.shrink_in.new.key in
    let left = e.shrunk in
    let step = part_step p.number p.room p.parts.items p.clock p.moment p.ticked c.pass.invariant s.room s.parts.items s.clock made part lock old less c.index.ensures c.index_mut.ensures.value room new e.room e.went e.kept e.key.0 e.key.1 in
    part_pass p.number p.room room p.parts.items p.clock p.moment p.ticked part old new step left.found left.left left.turn

pub returns-clause-seen : goal.returns-clause-seen
returns-clause-seen g c =
    let p = c.pass.inside in
    let s = c.self.inside in
    let part = c.args.at in
    let made = ap (λ (v : LogPassView). v.made) c.pass.view_is ∙ c.requires.made ∙ sym c.self.view_is in
    let less = within s.room s.parts.items s.clock c.args.self.now part c.self.view_is c.requires.there in
    let lock = c.index.result.now in
    let old = c.index_mut.result.now in
    let e = c.shrink_in.ensures in
    let r = c.shrink_in.result in
    let room = c.shrink_in.new.pass in
    let new = c.shrink_in.new.key in
    let left = e.shrunk in
    let step = part_step p.number p.room p.parts.items p.clock p.moment p.ticked c.pass.invariant s.room s.parts.items s.clock made part lock old less c.index.ensures c.index_mut.ensures.value room new e.room e.went e.kept e.key.0 e.key.1 in
    (part_pass p.number p.room room p.parts.items p.clock p.moment p.ticked part old new step left.found left.left left.turn).seen

pub returns-clause-made : goal.returns-clause-made
returns-clause-made g c =
    let p = c.pass.inside in
    let s = c.self.inside in
    let part = c.args.at in
    let made = ap (λ (v : LogPassView). v.made) c.pass.view_is ∙ c.requires.made ∙ sym c.self.view_is in
    let less = within s.room s.parts.items s.clock c.args.self.now part c.self.view_is c.requires.there in
    let lock = c.index.result.now in
    let old = c.index_mut.result.now in
    let e = c.shrink_in.ensures in
    let r = c.shrink_in.result in
    let room = c.shrink_in.new.pass in
    let new = c.shrink_in.new.key in
    let left = e.shrunk in
    let step = part_step p.number p.room p.parts.items p.clock p.moment p.ticked c.pass.invariant s.room s.parts.items s.clock made part lock old less c.index.ensures c.index_mut.ensures.value room new e.room e.went e.kept e.key.0 e.key.1 in
    (part_same p.number p.room room p.parts.items p.clock p.moment p.ticked part old new step left.found left.left left.turn).made ∙ ap (λ (v : LogPassView). v.made) c.pass.view_is ∙ c.requires.made

pub returns-clause-shrunk : goal.returns-clause-shrunk
returns-clause-shrunk g c =
    let p = c.pass.inside in
    let s = c.self.inside in
    let part = c.args.at in
    let made = ap (λ (v : LogPassView). v.made) c.pass.view_is ∙ c.requires.made ∙ sym c.self.view_is in
    let less = within s.room s.parts.items s.clock c.args.self.now part c.self.view_is c.requires.there in
    let lock = c.index.result.now in
    let old = c.index_mut.result.now in
    let e = c.shrink_in.ensures in
    let r = c.shrink_in.result in
    let room = c.shrink_in.new.pass in
    let new = c.shrink_in.new.key in
    let left = e.shrunk in
    let step = part_step p.number p.room p.parts.items p.clock p.moment p.ticked c.pass.invariant s.room s.parts.items s.clock made part lock old less c.index.ensures c.index_mut.ensures.value room new e.room e.went e.kept e.key.0 e.key.1 in
    let after = pass_view p.number room (set p.parts.items part new) p.clock in
    subst (λ (v : LogPassView). HasShrunkOne part c.args.t v after) c.pass.view_is
    (part_shrunk p.number p.room room p.parts.items p.clock p.moment p.ticked part old new step left.found left.left left.turn c.args.t left.taken)

pub returns-clause-none_lags : goal.returns-clause-none_lags
returns-clause-none_lags g c =
    let p = c.pass.inside in
    let s = c.self.inside in
    let part = c.args.at in
    let made = ap (λ (v : LogPassView). v.made) c.pass.view_is ∙ c.requires.made ∙ sym c.self.view_is in
    let less = within s.room s.parts.items s.clock c.args.self.now part c.self.view_is c.requires.there in
    let lock = c.index.result.now in
    let old = c.index_mut.result.now in
    let e = c.shrink_in.ensures in
    let r = c.shrink_in.result in
    let room = c.shrink_in.new.pass in
    let new = c.shrink_in.new.key in
    let left = e.shrunk in
    let step = part_step p.number p.room p.parts.items p.clock p.moment p.ticked c.pass.invariant s.room s.parts.items s.clock made part lock old less c.index.ensures c.index_mut.ensures.value room new e.room e.went e.kept e.key.0 e.key.1 in
    subst (λ (h : History). OnOk r (NoneLags h.followers h.events c.args.t)) (sym (seen_at p.parts.items part new step.less)) e.none_lags
