use Rattle.std.proofs.Common.{◌≡◌, ◌<◌, List, ℕ, [], ◌∷◌, ◌++◌, sym, subst, ◌∙◌, arith}
use Rattle.partlog.specs.declared.clock_event.ClockEvent.{ClockEvent}
use Rattle.partlog.specs.declared.clock_event.ClockEvent.TheVariants.{Tick}
use Rattle.partlog.specs.Moment.{moment_of}
use Rattle.turn_lock.specs.AddedBy.{AddedBy}
use Rattle.shared_logs.specs.Desks.{MomentView}
use Rattle.shared_logs.specs.Entries.{clock_by, clock_entries}
use Rattle.shared_logs.specs.Keeps.{MomentKeeps}
use Rattle.shared_logs.proofs.Adding.{was_ok}
use Rattle.shared_logs.proofs.TickedClock.{tick_added, tick_keeps, ticked_above}
use Rattle.shared_logs.proofs.moment_desk.MomentDesk.tick.Goals as goal

pub invariant_of-self-2 : goal.invariant_of-self-2
invariant_of-self-2 g c =
    let inside = c.self.inside in
    let desk : MomentView = record { events = inside.log; tickers = inside.tickers; source = inside.source } in
    let less : moment_of inside.log < c.args.tick.moment = omega (arith, c.now.ensures.moment, c.if-tick-now.false) in
    let grown : c.tick.new.self ≡ inside.log ++ Tick c.args.tick.moment ∷ [] = was_ok c.tick.result c.if-is_err.ensures.value c.tick.ensures.ticked ∙ ticked_above inside.log c.args.tick.moment less in
    let K : List ClockEvent → List ℕ → Type 0 = λ es ps. MomentKeeps (record { events = es; tickers = ps; source = c.raise.new.source }) in
    subst (λ (es : List ClockEvent). K es c.push.new.self) (sym grown)
    (subst (K (inside.log ++ Tick c.args.tick.moment ∷ [])) (sym c.in_ok-push.ensures.ok) (tick_keeps desk c.args.tick.by c.args.tick.moment c.raise.new.source c.self.invariant less c.raise.ensures.source))

pub returns-clause-added : goal.returns-clause-added
returns-clause-added g c =
    let inside = c.self.inside in
    let desk : MomentView = record { events = inside.log; tickers = inside.tickers; source = inside.source } in
    let less : moment_of inside.log < c.args.tick.moment = omega (arith, c.now.ensures.moment, c.if-tick-now.false) in
    let grown : c.tick.new.self ≡ inside.log ++ Tick c.args.tick.moment ∷ [] = was_ok c.tick.result c.if-is_err.ensures.value c.tick.ensures.ticked ∙ ticked_above inside.log c.args.tick.moment less in
    let A : List ClockEvent → List ℕ → Type 0 = λ es ps. AddedBy clock_by c.args.tick.by (clock_entries inside.log inside.tickers) (clock_entries es ps) in
    subst (λ (d : MomentView). AddedBy clock_by c.args.tick.by (clock_entries d.events d.tickers) (clock_entries c.tick.new.self c.push.new.self)) c.self.view_is
    (subst (λ (es : List ClockEvent). A es c.push.new.self) (sym grown)
    (subst (A (inside.log ++ Tick c.args.tick.moment ∷ [])) (sym c.in_ok-push.ensures.ok) (tick_added desk c.args.tick.by c.args.tick.moment c.self.invariant)))
