use Rattle.std.proofs.Common.{◌≡◌, sym, ap, subst, ◌∙◌}
use Rattle.partlog.specs.History.{History}
use Rattle.partlog.specs.Kept.{IsKept}
use Rattle.partlog.specs.Looked.{looked}
use Rattle.partlog.specs.State.{state_of}
use Rattle.kanswer.specs.Decisions.{Looked}
use Rattle.audit.proofs.broker.Laws.{looked_state}
use Rattle.turn_lock.specs.AddedBy.{AddedBy}
use Rattle.shared_logs.specs.Desks.{PartView}
use Rattle.shared_logs.specs.Entries.{entry_by, log_entries}
use Rattle.shared_logs.specs.Keeps.{PartKeeps}
use Rattle.shared_logs.proofs.Adding.{added_none, either}
use Rattle.shared_logs.proofs.Entering.{entered_added, keeps_looked}
use Rattle.shared_logs.proofs.part_desk.PartDesk.look.Goals as goal

pub invariant_of-self : goal.invariant_of-self
invariant_of-self c =
    let inside = c.self.inside in
    let log = c.deref_mut.result.now in
    let who = c.args.who in
    let desk : PartView = record { history = log; part = inside.part; sources = inside.sources.value } in
    let K : History → Type 0 = λ h. PartKeeps (record { history = h; part = inside.part; sources = inside.sources.value }) in
    let keeps = subst K (sym c.deref_mut.ensures.value) c.self.invariant in
    either c.look.result c.look.ensures.looked c.look.ensures.refused
    (λ (e : c.look.new.self ≡ looked log who.by who.seq).
    subst K (sym e) (keeps_looked desk who.by who.seq keeps (subst (λ (h : History). IsKept h.log h.events) e c.look.ensures.kept)))
    (λ (e : c.look.new.self ≡ log). subst K (sym e) keeps)

pub returns-clause-state : goal.returns-clause-state
returns-clause-state c =
    let log = c.deref_mut.result.now in
    let who = c.args.who in
    either c.look.result c.look.ensures.looked c.look.ensures.refused
    (λ (e : c.look.new.self ≡ looked log who.by who.seq). ap state_of e ∙ looked_state log who.by who.seq)
    (λ (e : c.look.new.self ≡ log). ap state_of e)
    ∙ ap state_of c.deref_mut.ensures.value ∙ ap (λ (d : PartView). state_of d.history) c.self.view_is

pub returns-clause-added : goal.returns-clause-added
returns-clause-added c =
    let log = c.deref_mut.result.now in
    let who = c.args.who in
    let A : History → Type 0 = λ h. AddedBy entry_by who.by (log_entries log) (log_entries h) in
    subst (λ (h : History). AddedBy entry_by who.by (log_entries h) (log_entries c.look.new.self)) (c.deref_mut.ensures.value ∙ ap (λ (d : PartView). d.history) c.self.view_is)
    (either c.look.result c.look.ensures.looked c.look.ensures.refused
    (λ (e : c.look.new.self ≡ looked log who.by who.seq). subst A (sym e) (entered_added log who.by who.seq 0 Looked c.look.ensures.was_kept.whole))
    (λ (e : c.look.new.self ≡ log). subst A (sym e) (added_none entry_by who.by (log_entries log))))
