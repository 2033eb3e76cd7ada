use Rattle.std.proofs.Common.{ℕ, ap, set, subst, sym, ◌∙◌}
use Rattle.kanswer.specs.Sent.{sent_outcome}
use Rattle.shared_logs.specs.Asked.{HasAsked}
use Rattle.shared_logs.specs.Coming.{HasCaughtUp}
use Rattle.shared_logs.specs.Locked.{pass_view}
use Rattle.shared_logs.specs.Shared.{LogPassView}
use Rattle.shared_logs.specs.Turned.{OpensPart}
use Rattle.shared_logs.proofs.Passes.{opens, part_asked, part_caught_up, part_pass, part_same, part_step, within}
use Rattle.shared_logs.proofs.Telling.{by_result, if_ok, on_err}
use Rattle.shared_logs.proofs.logs.SharedLogs.put.Goals as goal

pub put_into-requires-clause-key : goal.put_into-requires-clause-key
put_into-requires-clause-key g c =
    let p = c.pass.inside in
    let s = c.self.inside in
    let part = c.args.part in
    let made = ap (λ (v : LogPassView). v.made) c.pass.view_is ∙ c.requires.made ∙ sym c.self.view_is in
    let less = within s.room s.parts.items s.clock c.args.self.now part c.self.view_is c.requires.there in
    let lock = c.index.result.now in
    let old = c.index_mut.result.now in
    let o = opens p.number p.room p.parts.items p.clock p.moment p.ticked c.pass.invariant s.room s.parts.items s.clock made part lock old less c.index.ensures c.index_mut.ensures.value in
    subst (λ (n : ℕ). OpensPart s.room.table part n lock old) (ap (λ (v : LogPassView). v.number) c.pass.view_is ∙ sym c.requires.who) o

pub invariant_of-pass : goal.invariant_of-pass
invariant_of-pass g c =
    let p = c.pass.inside in
    let s = c.self.inside in
    let part = c.args.part in
    let made = ap (λ (v : LogPassView). v.made) c.pass.view_is ∙ c.requires.made ∙ sym c.self.view_is in
    let less = within s.room s.parts.items s.clock c.args.self.now part c.self.view_is c.requires.there in
    let lock = c.index.result.now in
    let old = c.index_mut.result.now in
    let e = c.put_into.ensures in
    let r = c.put_into.result in
    let room = c.put_into.new.pass in
    let new = c.put_into.new.key in
    let step = part_step p.number p.room p.parts.items p.clock p.moment p.ticked c.pass.invariant s.room s.parts.items s.clock made part lock old less c.index.ensures c.index_mut.ensures.value room new e.room e.went e.kept e.key.of_lock e.key.ready in
    let asked = e.asked in
    by_result r asked e.refused (λ x a. part_pass p.number p.room room p.parts.items p.clock p.moment p.ticked part old new step a.found a.left a.turn) (λ saw. part_pass p.number p.room room p.parts.items p.clock p.moment p.ticked part old new step saw.0 saw.0 saw.1)

pub returns-clause-seen : goal.returns-clause-seen
returns-clause-seen g c =
    let p = c.pass.inside in
    let s = c.self.inside in
    let part = c.args.part in
    let made = ap (λ (v : LogPassView). v.made) c.pass.view_is ∙ c.requires.made ∙ sym c.self.view_is in
    let less = within s.room s.parts.items s.clock c.args.self.now part c.self.view_is c.requires.there in
    let lock = c.index.result.now in
    let old = c.index_mut.result.now in
    let e = c.put_into.ensures in
    let r = c.put_into.result in
    let room = c.put_into.new.pass in
    let new = c.put_into.new.key in
    let step = part_step p.number p.room p.parts.items p.clock p.moment p.ticked c.pass.invariant s.room s.parts.items s.clock made part lock old less c.index.ensures c.index_mut.ensures.value room new e.room e.went e.kept e.key.of_lock e.key.ready in
    let asked = e.asked in
    (by_result r asked e.refused (λ x a. part_pass p.number p.room room p.parts.items p.clock p.moment p.ticked part old new step a.found a.left a.turn) (λ saw. part_pass p.number p.room room p.parts.items p.clock p.moment p.ticked part old new step saw.0 saw.0 saw.1)).seen

pub returns-clause-made : goal.returns-clause-made
returns-clause-made g c =
    let p = c.pass.inside in
    let s = c.self.inside in
    let part = c.args.part in
    let made = ap (λ (v : LogPassView). v.made) c.pass.view_is ∙ c.requires.made ∙ sym c.self.view_is in
    let less = within s.room s.parts.items s.clock c.args.self.now part c.self.view_is c.requires.there in
    let lock = c.index.result.now in
    let old = c.index_mut.result.now in
    let e = c.put_into.ensures in
    let r = c.put_into.result in
    let room = c.put_into.new.pass in
    let new = c.put_into.new.key in
    let step = part_step p.number p.room p.parts.items p.clock p.moment p.ticked c.pass.invariant s.room s.parts.items s.clock made part lock old less c.index.ensures c.index_mut.ensures.value room new e.room e.went e.kept e.key.of_lock e.key.ready in
    let asked = e.asked in
    by_result r asked e.refused (λ x a. (part_same p.number p.room room p.parts.items p.clock p.moment p.ticked part old new step a.found a.left a.turn).made) (λ saw. (part_same p.number p.room room p.parts.items p.clock p.moment p.ticked part old new step saw.0 saw.0 saw.1).made)
    ∙ ap (λ (v : LogPassView). v.made) c.pass.view_is ∙ c.requires.made

pub returns-clause-asked : goal.returns-clause-asked
returns-clause-asked g c =
    let p = c.pass.inside in
    let s = c.self.inside in
    let part = c.args.part in
    let made = ap (λ (v : LogPassView). v.made) c.pass.view_is ∙ c.requires.made ∙ sym c.self.view_is in
    let less = within s.room s.parts.items s.clock c.args.self.now part c.self.view_is c.requires.there in
    let lock = c.index.result.now in
    let old = c.index_mut.result.now in
    let e = c.put_into.ensures in
    let r = c.put_into.result in
    let room = c.put_into.new.pass in
    let new = c.put_into.new.key in
    let step = part_step p.number p.room p.parts.items p.clock p.moment p.ticked c.pass.invariant s.room s.parts.items s.clock made part lock old less c.index.ensures c.index_mut.ensures.value room new e.room e.went e.kept e.key.of_lock e.key.ready in
    let after = pass_view p.number room (set p.parts.items part new) p.clock in
    let outcome = sent_outcome part c.args.sent.now in
    if_ok r e.asked
    (λ x a. subst (λ (v : LogPassView). HasAsked part c.args.who.seq outcome v after x.entered x.numbers) c.pass.view_is
    (part_asked p.number p.room room p.parts.items p.clock p.moment p.ticked part old new step a.found a.left a.turn c.args.who.seq outcome x.entered x.numbers a.entry a.numbers_are))

pub returns-clause-refused : goal.returns-clause-refused
returns-clause-refused g c =
    let p = c.pass.inside in
    let s = c.self.inside in
    let part = c.args.part in
    let made = ap (λ (v : LogPassView). v.made) c.pass.view_is ∙ c.requires.made ∙ sym c.self.view_is in
    let less = within s.room s.parts.items s.clock c.args.self.now part c.self.view_is c.requires.there in
    let lock = c.index.result.now in
    let old = c.index_mut.result.now in
    let e = c.put_into.ensures in
    let r = c.put_into.result in
    let room = c.put_into.new.pass in
    let new = c.put_into.new.key in
    let step = part_step p.number p.room p.parts.items p.clock p.moment p.ticked c.pass.invariant s.room s.parts.items s.clock made part lock old less c.index.ensures c.index_mut.ensures.value room new e.room e.went e.kept e.key.of_lock e.key.ready in
    let after = pass_view p.number room (set p.parts.items part new) p.clock in
    on_err r e.refused (λ saw. subst (λ (v : LogPassView). HasCaughtUp v after) c.pass.view_is (part_caught_up p.number p.room room p.parts.items p.clock p.moment p.ticked part old new step saw))
