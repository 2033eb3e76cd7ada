use Rattle.std.proofs.Common.{inr, ◌∙◌, ℕ, ◌-◌, ◌≤◌, ap, arith, subst, sym}
use Rattle.std.specs.Prelude.{slice_index}
use Rattle.std.proofs.lemmas.List.{length-map}
use Rattle.room_core.specs.declared.shape.Shape.{Shape}
use Rattle.room_core.specs.Gauges.{IsGaugeOf, IsPass, clock_of}
use Rattle.room_core.specs.Scans.{MayHear}
use Rattle.room_table.specs.Seats.{TableView, scanner_now}
use Rattle.timing_wheel.specs.Timers.{Timers, ids_of}
use Rattle.purgatory.specs.scans.Coming.{IsSettled}
use Rattle.purgatory.specs.scans.Desks.{ClockView}
use Rattle.purgatory.specs.scans.Scanned.{scan_begun}
use Rattle.purgatory.proofs.scans.ClockEntries.{listing_begun}
use Rattle.purgatory.proofs.scans.Coming.{begins_coming, due_within}
use Rattle.purgatory.proofs.scans.Gauges.{clock_own}
use Rattle.purgatory.proofs.scans.clock_listing.ClockListing.begin.Goals as goal

pub begin-heard-requires-clause-may : goal.begin-heard-requires-clause-may
begin-heard-requires-clause-may c =
    let seat = c.self.inside.scanner in
    let clock = ap (λ (s : Shape). s.gauges - 1) c.shape-clock.ensures.is in
    let i = c.self.invariant in
    let none = subst (λ (v : ClockView). (pass : ℕ) → IsSettled pass v) (sym c.self.view_is) c.requires.settled in
    subst (λ g. MayHear seat.table.shape seat.scanner (scanner_now seat) g) (sym clock)
    (inr i.number, subst (λ k. IsGaugeOf seat.table.shape k (clock_of seat.table.shape)) (sym i.number) (clock_own seat.table.shape i.shape), λ pass. (none pass).no_duty)

pub pop_due-requires-clause-later : goal.pop_due-requires-clause-later
pop_due-requires-clause-later c =
    let seat = c.self.inside.scanner in
    let moment = c.self.invariant.moment in
    let least : (scanner_now seat).began (clock_of seat.table.shape) ≤ c.begin-heard.result =
    subst (λ (s : Shape). (scanner_now seat).began (s.gauges - 1) ≤ c.begin-heard.result) c.shape-clock.ensures.is c.begin-heard.ensures.least in
    omega (arith, moment, least)

pub pop_due-requires-clause-room : goal.pop_due-requires-clause-room
pop_due-requires-clause-room c =
    let ids = ap (λ (v : ClockView). ids_of v.timers) c.self.view_is in
    let room = c.requires.room in
    omega (arith, ids, room)

pub invariant_of-self : goal.invariant_of-self
invariant_of-self c =
    let inside = c.self.inside in
    let seat = inside.scanner in
    let moment = c.self.invariant.moment in
    let least : (scanner_now seat).began (clock_of seat.table.shape) ≤ c.begin-heard.result =
    subst (λ (s : Shape). (scanner_now seat).began (s.gauges - 1) ≤ c.begin-heard.result) c.shape-clock.ensures.is c.begin-heard.ensures.least in
    let step = c.begin-heard.ensures.step ∙ ap (λ (s : Shape). scan_begun seat (s.gauges - 1) c.begin-heard.result) c.shape-clock.ensures.is in
    listing_begun inside.entries.items seat c.begin-heard.new.self inside.wheels c.pop_due.new.self c.begin-heard.result c.self.invariant (omega (arith, moment, least)) step
    (ap (λ (t : Timers). t.moment) c.pop_due.ensures.rest)
    (ap ids_of c.pop_due.ensures.rest ∙ length-map inside.wheels.slots _)

pub returns-clause-step : goal.returns-clause-step
returns-clause-step c =
    let seat = c.self.inside.scanner in
    let table = ap (λ (v : ClockView). v.seat.table) c.self.view_is ∙ c.requires.table in
    c.begin-heard.ensures.step
    ∙ ap (λ (s : Shape). scan_begun seat (s.gauges - 1) c.begin-heard.result) (c.shape-clock.ensures.is ∙ ap (λ (t : TableView). t.shape) table)
    ∙ ap (λ (v : ClockView). scan_begun v.seat (clock_of c.args.table.now.shape) c.begin-heard.result) c.self.view_is

pub returns-clause-least : goal.returns-clause-least
returns-clause-least c =
    let seat = c.self.inside.scanner in
    let table = ap (λ (v : ClockView). v.seat.table) c.self.view_is ∙ c.requires.table in
    subst (λ (v : ClockView). (scanner_now v.seat).began (clock_of c.args.table.now.shape) ≤ c.begin-heard.result) c.self.view_is
    (subst (λ (s : Shape). (scanner_now seat).began (s.gauges - 1) ≤ c.begin-heard.result) (c.shape-clock.ensures.is ∙ ap (λ (t : TableView). t.shape) table) c.begin-heard.ensures.least)

pub returns-clause-ids : goal.returns-clause-ids
returns-clause-ids c =
    ap ids_of c.pop_due.ensures.rest ∙ length-map c.self.inside.wheels.slots _ ∙ ap (λ (v : ClockView). ids_of v.timers) c.self.view_is

pub returns-clause-within : goal.returns-clause-within
returns-clause-within c =
    let inside = c.self.inside in
    let seat = inside.scanner in
    let old : ClockView = record { seat = seat; timers = inside.wheels } in
    let new : ClockView = record { seat = c.begin-heard.new.self; timers = c.pop_due.new.self } in
    let moment = c.self.invariant.moment in
    let least : (scanner_now seat).began (clock_of seat.table.shape) ≤ c.begin-heard.result =
    subst (λ (s : Shape). (scanner_now seat).began (s.gauges - 1) ≤ c.begin-heard.result) c.shape-clock.ensures.is c.begin-heard.ensures.least in
    let step = c.begin-heard.ensures.step ∙ ap (λ (s : Shape). scan_begun seat (s.gauges - 1) c.begin-heard.result) c.shape-clock.ensures.is in
    let all = subst (λ (v : ClockView). (pass : ℕ) → IsSettled pass v) (sym c.self.view_is) c.requires.settled in
    let table = ap (λ (v : ClockView). v.seat.table) c.self.view_is ∙ c.requires.table in
    λ place less. subst (λ (t : TableView). IsPass t.shape (slice_index c.pop_due.new.due.ids place)) table
    (due_within inside.entries.items old new c.begin-heard.result c.pop_due.new.due.ids c.self.invariant all (omega (arith, moment, least)) step
    (ap (λ (t : Timers). t.moment) c.pop_due.ensures.rest) c.pop_due.ensures.due c.pop_due.ensures.others c.self.invariant.passes place less)

pub returns-clause-coming : goal.returns-clause-coming
returns-clause-coming c =
    let inside = c.self.inside in
    let seat = inside.scanner in
    let old : ClockView = record { seat = seat; timers = inside.wheels } in
    let new : ClockView = record { seat = c.begin-heard.new.self; timers = c.pop_due.new.self } in
    let moment = c.self.invariant.moment in
    let least : (scanner_now seat).began (clock_of seat.table.shape) ≤ c.begin-heard.result =
    subst (λ (s : Shape). (scanner_now seat).began (s.gauges - 1) ≤ c.begin-heard.result) c.shape-clock.ensures.is c.begin-heard.ensures.least in
    let step = c.begin-heard.ensures.step ∙ ap (λ (s : Shape). scan_begun seat (s.gauges - 1) c.begin-heard.result) c.shape-clock.ensures.is in
    let all = subst (λ (v : ClockView). (pass : ℕ) → IsSettled pass v) (sym c.self.view_is) c.requires.settled in
    begins_coming inside.entries.items old new c.begin-heard.result c.pop_due.new.due.ids c.self.invariant all (omega (arith, moment, least)) step
    (ap (λ (t : Timers). t.moment) c.pop_due.ensures.rest) c.pop_due.ensures.due c.pop_due.ensures.others
