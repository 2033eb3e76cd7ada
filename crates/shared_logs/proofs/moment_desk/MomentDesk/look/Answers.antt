use Rattle.std.proofs.Common.{◌≡◌, List, [], ◌∷◌, ◌++◌, sym, subst}
use Rattle.partlog.specs.declared.clock_event.ClockEvent.{ClockEvent}
use Rattle.partlog.specs.declared.clock_event.ClockEvent.TheVariants.{Look}
use Rattle.turn_lock.specs.AddedBy.{AddedBy}
use Rattle.shared_logs.specs.Desks.{MomentView}
use Rattle.shared_logs.specs.Entries.{clock_by, clock_entries}
use Rattle.shared_logs.specs.Keeps.{MomentKeeps}
use Rattle.shared_logs.proofs.Adding.{added_none, either}
use Rattle.shared_logs.proofs.TickedClock.{look_added, look_keeps}
use Rattle.shared_logs.proofs.moment_desk.MomentDesk.look.Goals as goal

pub invariant_of-self : goal.invariant_of-self
invariant_of-self c =
    let inside = c.self.inside in
    let desk : MomentView = record { events = inside.log; tickers = inside.tickers; source = inside.source } in
    let K : List ClockEvent → Type 0 = λ es. MomentKeeps (record { events = es; tickers = inside.tickers; source = inside.source }) in
    either c.look.result c.look.ensures.looked c.look.ensures.refused
    (λ (e : c.look.new.self ≡ inside.log ++ Look c.args.who.by c.args.who.seq ∷ []). subst K (sym e) (look_keeps desk c.args.who.by c.args.who.seq c.self.invariant))
    (λ (e : c.look.new.self ≡ inside.log). subst K (sym e) c.self.invariant)

pub returns-clause-added : goal.returns-clause-added
returns-clause-added c =
    let inside = c.self.inside in
    let desk : MomentView = record { events = inside.log; tickers = inside.tickers; source = inside.source } in
    let A : List ClockEvent → Type 0 = λ es. AddedBy clock_by c.args.who.by (clock_entries inside.log inside.tickers) (clock_entries es inside.tickers) in
    subst (λ (d : MomentView). AddedBy clock_by c.args.who.by (clock_entries d.events d.tickers) (clock_entries c.look.new.self inside.tickers)) c.self.view_is
    (either c.look.result c.look.ensures.looked c.look.ensures.refused
    (λ (e : c.look.new.self ≡ inside.log ++ Look c.args.who.by c.args.who.seq ∷ []). subst A (sym e) (look_added desk c.args.who.by c.args.who.seq c.self.invariant))
    (λ (e : c.look.new.self ≡ inside.log). subst A (sym e) (added_none clock_by c.args.who.by (clock_entries inside.log inside.tickers))))
