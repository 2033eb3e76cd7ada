use Rattle.std.proofs.Common.{◌≡◌, ℕ, ap, rules, set, subst, sym, ◌∙◌}
use Rattle.std.specs.Prelude.{IfOk, slice_index}
use Rattle.partlog.specs.History.{History}
use Rattle.partlog.specs.State.{state_of}
use Rattle.kanswer.specs.Decisions.{fetch_outcome}
use Rattle.kanswer.specs.Entered.{HasEntered}
use Rattle.turn_lock.specs.Locks.{known, lock_name}
use Rattle.shared_logs.specs.Desks.{part_name}
use Rattle.shared_logs.specs.declared.turns.Fetched.{Fetched}
use Rattle.shared_logs.specs.Asked.{HasAsked, HasRead}
use Rattle.shared_logs.specs.Coming.{HasCaughtUp}
use Rattle.shared_logs.specs.Locked.{pass_view, seen_part}
use Rattle.shared_logs.specs.Shared.{LogPassView, SharedView, followers_in}
use Rattle.shared_logs.specs.Turned.{AskedPart, OpensPart}
use Rattle.shared_logs.proofs.Passes.{followers_at, opens, part_asked, part_caught_up, part_pass, part_same, part_step, seen_at, within}
use Rattle.shared_logs.proofs.Telling.{by_result, if_ok, on_err}
use Rattle.shared_logs.proofs.logs.SharedLogs.fetch.Goals as goal

pub fetch_from-requires-clause-key : goal.fetch_from-requires-clause-key
fetch_from-requires-clause-key g c =
    let p = c.pass.inside in
    let s = c.self.inside in
    let part = c.args.wanted.now.part in
    let made = ap (λ (v : LogPassView). v.made) c.pass.view_is ∙ c.requires.made ∙ sym c.self.view_is in
    let less = within s.room s.parts.items s.clock c.args.self.now part c.self.view_is c.requires.there in
    let lock = c.index.result.now in
    let old = c.index_mut.result.now in
    let o = opens p.number p.room p.parts.items p.clock p.moment p.ticked c.pass.invariant s.room s.parts.items s.clock made part lock old less c.index.ensures c.index_mut.ensures.value in
    subst (λ (n : ℕ). OpensPart s.room.table part n lock old) (ap (λ (v : LogPassView). v.number) c.pass.view_is ∙ sym c.requires.who) o

pub invariant_of-pass : goal.invariant_of-pass
invariant_of-pass g c =
    let p = c.pass.inside in
    let s = c.self.inside in
    let part = c.args.wanted.now.part in
    let made = ap (λ (v : LogPassView). v.made) c.pass.view_is ∙ c.requires.made ∙ sym c.self.view_is in
    let less = within s.room s.parts.items s.clock c.args.self.now part c.self.view_is c.requires.there in
    let lock = c.index.result.now in
    let old = c.index_mut.result.now in
    let e = c.fetch_from.ensures in
    let r = c.fetch_from.result in
    let room = c.fetch_from.new.pass in
    let new = c.fetch_from.new.key in
    let step = part_step p.number p.room p.parts.items p.clock p.moment p.ticked c.pass.invariant s.room s.parts.items s.clock made part lock old less c.index.ensures c.index_mut.ensures.value room new e.room e.went e.kept e.key.of_lock e.key.ready in
    let a = c.args in
    let asked : IfOk r (λ (f : Fetched). AskedPart a.who.seq p.moment (fetch_outcome (slice_index (lock_name part_name lock) 0) a.wanted.now.replica a.wanted.now.asked.now part) (known old) (known new) f.entered f.numbers) = search rules in
    by_result r asked e.refused (λ x a. part_pass p.number p.room room p.parts.items p.clock p.moment p.ticked part old new step a.found a.left a.turn) (λ saw. part_pass p.number p.room room p.parts.items p.clock p.moment p.ticked part old new step saw.0 saw.0 saw.1)

pub returns-clause-seen : goal.returns-clause-seen
returns-clause-seen g c =
    let p = c.pass.inside in
    let s = c.self.inside in
    let part = c.args.wanted.now.part in
    let made = ap (λ (v : LogPassView). v.made) c.pass.view_is ∙ c.requires.made ∙ sym c.self.view_is in
    let less = within s.room s.parts.items s.clock c.args.self.now part c.self.view_is c.requires.there in
    let lock = c.index.result.now in
    let old = c.index_mut.result.now in
    let e = c.fetch_from.ensures in
    let r = c.fetch_from.result in
    let room = c.fetch_from.new.pass in
    let new = c.fetch_from.new.key in
    let step = part_step p.number p.room p.parts.items p.clock p.moment p.ticked c.pass.invariant s.room s.parts.items s.clock made part lock old less c.index.ensures c.index_mut.ensures.value room new e.room e.went e.kept e.key.of_lock e.key.ready in
    let a = c.args in
    let asked : IfOk r (λ (f : Fetched). AskedPart a.who.seq p.moment (fetch_outcome (slice_index (lock_name part_name lock) 0) a.wanted.now.replica a.wanted.now.asked.now part) (known old) (known new) f.entered f.numbers) = search rules in
    (by_result r asked e.refused (λ x a. part_pass p.number p.room room p.parts.items p.clock p.moment p.ticked part old new step a.found a.left a.turn) (λ saw. part_pass p.number p.room room p.parts.items p.clock p.moment p.ticked part old new step saw.0 saw.0 saw.1)).seen

pub returns-clause-made : goal.returns-clause-made
returns-clause-made g c =
    let p = c.pass.inside in
    let s = c.self.inside in
    let part = c.args.wanted.now.part in
    let made = ap (λ (v : LogPassView). v.made) c.pass.view_is ∙ c.requires.made ∙ sym c.self.view_is in
    let less = within s.room s.parts.items s.clock c.args.self.now part c.self.view_is c.requires.there in
    let lock = c.index.result.now in
    let old = c.index_mut.result.now in
    let e = c.fetch_from.ensures in
    let r = c.fetch_from.result in
    let room = c.fetch_from.new.pass in
    let new = c.fetch_from.new.key in
    let step = part_step p.number p.room p.parts.items p.clock p.moment p.ticked c.pass.invariant s.room s.parts.items s.clock made part lock old less c.index.ensures c.index_mut.ensures.value room new e.room e.went e.kept e.key.of_lock e.key.ready in
    let a = c.args in
    let asked : IfOk r (λ (f : Fetched). AskedPart a.who.seq p.moment (fetch_outcome (slice_index (lock_name part_name lock) 0) a.wanted.now.replica a.wanted.now.asked.now part) (known old) (known new) f.entered f.numbers) = search rules in
    by_result r asked e.refused (λ x a. (part_same p.number p.room room p.parts.items p.clock p.moment p.ticked part old new step a.found a.left a.turn).made) (λ saw. (part_same p.number p.room room p.parts.items p.clock p.moment p.ticked part old new step saw.0 saw.0 saw.1).made)
    ∙ ap (λ (v : LogPassView). v.made) c.pass.view_is ∙ c.requires.made

pub returns-clause-asked : goal.returns-clause-asked
returns-clause-asked g c =
    let p = c.pass.inside in
    let s = c.self.inside in
    let part = c.args.wanted.now.part in
    let made = ap (λ (v : LogPassView). v.made) c.pass.view_is ∙ c.requires.made ∙ sym c.self.view_is in
    let less = within s.room s.parts.items s.clock c.args.self.now part c.self.view_is c.requires.there in
    let lock = c.index.result.now in
    let old = c.index_mut.result.now in
    let e = c.fetch_from.ensures in
    let r = c.fetch_from.result in
    let room = c.fetch_from.new.pass in
    let new = c.fetch_from.new.key in
    let step = part_step p.number p.room p.parts.items p.clock p.moment p.ticked c.pass.invariant s.room s.parts.items s.clock made part lock old less c.index.ensures c.index_mut.ensures.value room new e.room e.went e.kept e.key.of_lock e.key.ready in
    let a = c.args in
    let asked : IfOk r (λ (f : Fetched). AskedPart a.who.seq p.moment (fetch_outcome (slice_index (lock_name part_name lock) 0) a.wanted.now.replica a.wanted.now.asked.now part) (known old) (known new) f.entered f.numbers) = search rules in
    let after = pass_view p.number room (set p.parts.items part new) p.clock in
    let outcome = λ (n : ℕ). fetch_outcome n c.args.wanted.now.replica c.args.wanted.now.asked.now part in
    let all = slice_index (followers_in c.args.self.now) part in
    let followers : slice_index (lock_name part_name lock) 0 ≡ all =
    sym (followers_at p.number p.room p.parts.items p.clock p.moment p.ticked c.pass.invariant s.room s.parts.items s.clock made part lock old less c.index.ensures c.index_mut.ensures.value) ∙ ap (λ (v : SharedView). slice_index (followers_in v) part) c.self.view_is in
    if_ok r asked
    (λ x a. subst (λ (v : LogPassView). HasAsked part c.args.who.seq (outcome all) v after x.entered x.numbers) c.pass.view_is
    (part_asked p.number p.room room p.parts.items p.clock p.moment p.ticked part old new step a.found a.left a.turn c.args.who.seq (outcome all) x.entered x.numbers
    (subst (λ (n : ℕ). HasEntered (known old).number c.args.who.seq p.moment (outcome n) a.found.history a.left.history x.entered) followers a.entry) a.numbers_are))

pub returns-clause-read : goal.returns-clause-read
returns-clause-read g c =
    let p = c.pass.inside in
    let s = c.self.inside in
    let part = c.args.wanted.now.part in
    let made = ap (λ (v : LogPassView). v.made) c.pass.view_is ∙ c.requires.made ∙ sym c.self.view_is in
    let less = within s.room s.parts.items s.clock c.args.self.now part c.self.view_is c.requires.there in
    let lock = c.index.result.now in
    let old = c.index_mut.result.now in
    let e = c.fetch_from.ensures in
    let r = c.fetch_from.result in
    let room = c.fetch_from.new.pass in
    let new = c.fetch_from.new.key in
    let step = part_step p.number p.room p.parts.items p.clock p.moment p.ticked c.pass.invariant s.room s.parts.items s.clock made part lock old less c.index.ensures c.index_mut.ensures.value room new e.room e.went e.kept e.key.of_lock e.key.ready in
    let read : IfOk r (λ x. IfOk x.records (λ records. HasRead c.args.wanted.now.replica c.args.wanted.now.asked.now x.entered.became (state_of (seen_part new)) x.numbers records c.args.budget.now c.fetch_from.new.budget)) = search rules in
    subst
    (λ (h : History). IfOk r (λ x. IfOk x.records (λ records. HasRead c.args.wanted.now.replica c.args.wanted.now.asked.now x.entered.became (state_of h) x.numbers records c.args.budget.now c.fetch_from.new.budget)))
    (sym (seen_at p.parts.items part new step.less)) read

pub returns-clause-refused : goal.returns-clause-refused
returns-clause-refused g c =
    let p = c.pass.inside in
    let s = c.self.inside in
    let part = c.args.wanted.now.part in
    let made = ap (λ (v : LogPassView). v.made) c.pass.view_is ∙ c.requires.made ∙ sym c.self.view_is in
    let less = within s.room s.parts.items s.clock c.args.self.now part c.self.view_is c.requires.there in
    let lock = c.index.result.now in
    let old = c.index_mut.result.now in
    let e = c.fetch_from.ensures in
    let r = c.fetch_from.result in
    let room = c.fetch_from.new.pass in
    let new = c.fetch_from.new.key in
    let step = part_step p.number p.room p.parts.items p.clock p.moment p.ticked c.pass.invariant s.room s.parts.items s.clock made part lock old less c.index.ensures c.index_mut.ensures.value room new e.room e.went e.kept e.key.of_lock e.key.ready in
    let after = pass_view p.number room (set p.parts.items part new) p.clock in
    on_err r e.refused (λ saw. subst (λ (v : LogPassView). HasCaughtUp v after) c.pass.view_is (part_caught_up p.number p.room room p.parts.items p.clock p.moment p.ticked part old new step saw))
