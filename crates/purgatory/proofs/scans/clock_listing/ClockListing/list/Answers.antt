use Rattle.std.proofs.Common.{◌∙◌, ap, arith, subst, sym}
use Rattle.room_core.specs.Gauges.{IsPass}
use Rattle.room_core.specs.Meetings.{generation_met}
use Rattle.room_table.specs.declared.part.ScannerStep.{ScannerStep}
use Rattle.room_table.specs.Seats.{ScanView, TableView, scanner_did}
use Rattle.purgatory.specs.scans.Coming.{WasMet}
use Rattle.purgatory.specs.scans.Desks.{ClockView}
use Rattle.purgatory.proofs.scans.ClockEntries.{listing_marked}
use Rattle.purgatory.proofs.scans.Deadlines.{found_else, lists_deadline, marks_clock, marks_generation, meets_open}
use Rattle.purgatory.proofs.scans.Settling.{marked_settles, met_free, met_others, met_timed}
use Rattle.purgatory.proofs.scans.Watching.{meeting_is}
use Rattle.purgatory.proofs.scans.clock_listing.ClockListing.list.Goals as goal

pub returns-then-open_generation-generation-clause-listed : goal.returns-then-open_generation-generation-clause-listed
returns-then-open_generation-generation-clause-listed c =
    found_else c.args.self.now.seat c.drop_timer.new.self.seat c.args.pass c.args.generation c.meet-found.result (c.drop_timer.ensures.seat ∙ c.meet-found.ensures.met.step) (λ e. c.if-open_generation-generation.true (c.open_generation.ensures ∙ e))

pub drop_timer-requires-clause-others : goal.drop_timer-requires-clause-others
drop_timer-requires-clause-others c = met_others c.args.pass c.meet-found.result c.args.self.now c.meet-found.new.self c.meet-found.ensures.met c.requires.settled

pub drop_timer-requires-clause-free : goal.drop_timer-requires-clause-free
drop_timer-requires-clause-free c = met_free c.args.pass c.meet-found.result c.args.self.now c.meet-found.new.self c.meet-found.ensures.met (c.requires.settled c.args.pass)

pub drop_timer-requires-clause-timed : goal.drop_timer-requires-clause-timed
drop_timer-requires-clause-timed c = met_timed c.args.pass c.meet-found.result c.args.self.now c.meet-found.new.self c.meet-found.ensures.met (c.requires.settled c.args.pass)

pub learn-deadline-requires-clause-met : goal.learn-deadline-requires-clause-met
learn-deadline-requires-clause-met c =
    let old = c.args.self.now.seat in
    let inside = c.self.inside in
    let met = ap (λ (v : ClockView). v.seat) c.self.view_is ∙ c.meet-found.ensures.met.step in
    let same = sym c.open_generation.ensures ∙ c.if-open_generation-generation.false in
    meets_open old inside.scanner c.args.pass c.args.generation c.meet-found.result c.requires.generation met same

pub mark-requires-clause-may : goal.mark-requires-clause-may
mark-requires-clause-may c =
    let old = c.args.self.now.seat in
    let inside = c.self.inside in
    let met = ap (λ (v : ClockView). v.seat) c.self.view_is ∙ c.meet-found.ensures.met.step in
    let same = sym c.open_generation.ensures ∙ c.if-open_generation-generation.false in
    let there = subst (λ (t : TableView). IsPass t.shape c.args.pass) (sym c.requires.table) c.requires.pass in
    let number = sym (ap (λ (v : ScanView). v.scanner) met) ∙ c.self.invariant.number in
    marks_clock old inside.scanner c.learn-deadline.new.self c.args.pass c.args.generation c.learn-deadline.result c.meet-found.result c.requires.generation met same c.learn-deadline.ensures there number

pub mark-requires-clause-generation : goal.mark-requires-clause-generation
mark-requires-clause-generation c =
    let old = c.args.self.now.seat in
    let inside = c.self.inside in
    let met = ap (λ (v : ClockView). v.seat) c.self.view_is ∙ c.meet-found.ensures.met.step in
    let same = sym c.open_generation.ensures ∙ c.if-open_generation-generation.false in
    marks_generation old inside.scanner c.learn-deadline.new.self c.args.pass c.args.generation c.learn-deadline.result c.meet-found.result c.requires.generation met same c.learn-deadline.ensures

pub returns-clause-listed : goal.returns-clause-listed
returns-clause-listed c =
    let old = c.args.self.now.seat in
    let inside = c.self.inside in
    let met = ap (λ (v : ClockView). v.seat) c.self.view_is ∙ c.meet-found.ensures.met.step in
    let same = sym c.open_generation.ensures ∙ c.if-open_generation-generation.false in
    lists_deadline old inside.scanner c.learn-deadline.new.self c.args.pass c.args.generation c.learn-deadline.result c.meet-found.result c.requires.generation met same c.learn-deadline.ensures c.mark.new.self c.mark.ensures

pub invariant_of-self : goal.invariant_of-self
invariant_of-self c =
    let old = c.args.self.now.seat in
    let inside = c.self.inside in
    let met = ap (λ (v : ClockView). v.seat) c.self.view_is ∙ c.meet-found.ensures.met.step in
    let same = sym c.open_generation.ensures ∙ c.if-open_generation-generation.false in
    let passes = ap (λ (v : ScanView). v.table.shape.passes) met ∙ ap (λ (t : TableView). t.shape.passes) c.requires.table in
    let size = c.self.invariant.size in
    let there = c.requires.pass in
    listing_marked inside.entries.items inside.scanner c.mark.new.self inside.wheels c.put_timer.new.wheels c.args.pass c.args.generation c.learn-deadline.result c.self.invariant
    (c.mark.ensures ∙ ap (λ (v : ScanView). scanner_did v (ScannerStep.Listed c.args.pass 64)) c.learn-deadline.ensures)
    c.put_timer.ensures.moment c.put_timer.ensures.ids (omega (arith, passes, size, there)) c.requires.generation
    (ap generation_met (meeting_is old inside.scanner c.args.pass c.args.generation c.meet-found.result c.requires.generation met same))

pub returns-clause-settled : goal.returns-clause-settled
returns-clause-settled c =
    let old = c.args.self.now.seat in
    let inside = c.self.inside in
    let met = ap (λ (v : ClockView). v.seat) c.self.view_is ∙ c.meet-found.ensures.met.step in
    let same = sym c.open_generation.ensures ∙ c.if-open_generation-generation.false in
    let desk : ClockView = record { seat = inside.scanner; timers = inside.wheels } in
    let was = subst (λ (v : ClockView). WasMet c.args.pass c.meet-found.result c.args.self.now v) (sym c.self.view_is) c.meet-found.ensures.met in
    marked_settles inside.scanner c.mark.new.self inside.wheels c.put_timer.new.wheels c.args.pass c.learn-deadline.result
    (c.mark.ensures ∙ ap (λ (v : ScanView). scanner_did v (ScannerStep.Listed c.args.pass 64)) c.learn-deadline.ensures)
    c.put_timer.ensures.moment c.put_timer.ensures.timer c.put_timer.ensures.others
    (met_others c.args.pass c.meet-found.result c.args.self.now desk was c.requires.settled) (met_free c.args.pass c.meet-found.result c.args.self.now desk was (c.requires.settled c.args.pass))
