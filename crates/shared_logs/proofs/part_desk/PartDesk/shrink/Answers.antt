use Rattle.std.proofs.Common.{sym, ap, subst, ◌∙◌}
use Rattle.partlog.specs.declared.numbers.Numbers.{Numbers}
use Rattle.partlog.specs.Fallen.{NoneFell}
use Rattle.partlog.specs.Gauges.{numbers_of}
use Rattle.partlog.specs.History.{History}
use Rattle.partlog.specs.Kept.{IsKept}
use Rattle.partlog.specs.State.{state_of}
use Rattle.turn_lock.specs.AddedBy.{AddedBy}
use Rattle.shared_logs.specs.Desks.{PartView}
use Rattle.shared_logs.specs.Entries.{entry_by, log_entries}
use Rattle.shared_logs.specs.Shrunk.{HasShrunkSome}
use Rattle.shared_logs.proofs.Entering.{shrunk_added, shrunk_rises, some_or_all}
use Rattle.shared_logs.proofs.part_desk.PartDesk.shrink.Goals as goal

pub tell-requires-clause-rises : goal.tell-requires-clause-rises
tell-requires-clause-rises g c =
    let log = c.deref_mut.result.now in
    let new = c.shrink_all-shrunk.new.self in
    let by = c.args.visit.now.visitor.who.by in
    let e = c.shrink_all-shrunk.ensures in
    let same = c.deref.ensures ∙ sym c.deref_mut.ensures.value in
    let kept = subst (λ (h : History). IsKept h.log h.events) same c.numbers-before.ensures.kept in
    let rises = shrunk_rises c.numbers_never_fall.ensures.grown by c.args.t log new kept (some_or_all by c.args.t log new c.shrink_all-shrunk.result e.all e.some) in
    let before = c.numbers-before.ensures.numbers ∙ ap (λ (h : History). numbers_of (state_of h)) same in
    let after = c.numbers-after.ensures.numbers ∙ ap (λ (h : History). numbers_of (state_of h)) c.deref-2.ensures in
    subst (λ (n : Numbers). NoneFell n c.numbers-after.result) (sym before) (subst (NoneFell (numbers_of (state_of log))) (sym after) rises)

pub returns-clause-some : goal.returns-clause-some
returns-clause-some g c =
    let by = c.args.visit.now.visitor.who.by in
    let e = c.shrink_all-shrunk.ensures in
    subst (λ (h : History). HasShrunkSome by c.args.t h c.shrink_all-shrunk.new.self) (c.deref_mut.ensures.value ∙ ap (λ (d : PartView). d.history) c.self.view_is)
    (some_or_all by c.args.t c.deref_mut.result.now c.shrink_all-shrunk.new.self c.shrink_all-shrunk.result e.all e.some)

pub returns-clause-added : goal.returns-clause-added
returns-clause-added g c =
    let log = c.deref_mut.result.now in
    let new = c.shrink_all-shrunk.new.self in
    let by = c.args.visit.now.visitor.who.by in
    let e = c.shrink_all-shrunk.ensures in
    let kept = subst (λ (h : History). IsKept h.log h.events) (c.deref.ensures ∙ sym c.deref_mut.ensures.value) c.numbers-before.ensures.kept in
    subst (λ (h : History). AddedBy entry_by by (log_entries h) (log_entries new)) (c.deref_mut.ensures.value ∙ ap (λ (d : PartView). d.history) c.self.view_is)
    (shrunk_added by c.args.t log new kept.whole (some_or_all by c.args.t log new c.shrink_all-shrunk.result e.all e.some))
