use Rattle.std.proofs.Common.{◌∙◌, ap, arith, refl, subst, sym}
use Rattle.room_core.specs.Meetings.{generation_met}
use Rattle.room_table.specs.Seats.{ScanView, TableView}
use Rattle.timing_wheel.specs.Timers.{ids_of}
use Rattle.purgatory.specs.scans.Coming.{WasMet}
use Rattle.purgatory.specs.scans.Desks.{ClockView}
use Rattle.purgatory.proofs.scans.ClockEntries.{listing_same, listing_tried}
use Rattle.purgatory.proofs.scans.Deadlines.{meets_open}
use Rattle.purgatory.proofs.scans.Settling.{left_only, left_settled, looked_on_duty, looked_only, met_off_duty, met_on_duty, met_only, on_duty_met, only_far, only_none, tried_gone, tried_only, tried_settled}
use Rattle.purgatory.proofs.scans.Watching.{meeting_is}
use Rattle.purgatory.proofs.scans.clock_listing.ClockListing.check_duty.Goals as goal

pub loop-init : goal.loop-init
loop-init g c = record { only = only_none c.args.pass c.args.self.now; duty = c.requires.duty; ids = refl }

pub returns-then-open_generation-entry-clause-only : goal.returns-then-open_generation-entry-clause-only
returns-then-open_generation-entry-clause-only g c =
    only_far c.args.pass c.args.self.now c.loop.self c.meet-found.new.self c.loop.invariant.only (met_only c.args.pass c.meet-found.result c.loop.self c.meet-found.new.self c.meet-found.ensures.met)

pub returns-then-open_generation-entry-clause-settled : goal.returns-then-open_generation-entry-clause-settled
returns-then-open_generation-entry-clause-settled g c =
    met_off_duty c.args.pass c.meet-found.result c.loop.self c.meet-found.new.self c.meet-found.ensures.met c.args.entry c.loop.invariant.duty
    (λ e. c.if-open_generation-entry.true (c.open_generation.ensures ∙ e))

pub check_deadline-requires-clause-met : goal.check_deadline-requires-clause-met
check_deadline-requires-clause-met g c =
    let inside = c.self.inside in
    let desk : ClockView = record { seat = inside.scanner; timers = inside.wheels } in
    let met = subst (λ (v : ClockView). WasMet c.args.pass c.meet-found.result c.loop.self v) (sym c.self.view_is) c.meet-found.ensures.met in
    let same = sym c.open_generation.ensures ∙ c.if-open_generation-entry.false in
    meets_open c.loop.self.seat inside.scanner c.args.pass c.args.entry.generation c.meet-found.result c.requires.generation met.step same

pub check_deadline-requires-clause-duty : goal.check_deadline-requires-clause-duty
check_deadline-requires-clause-duty g c =
    let inside = c.self.inside in
    let desk : ClockView = record { seat = inside.scanner; timers = inside.wheels } in
    let met = subst (λ (v : ClockView). WasMet c.args.pass c.meet-found.result c.loop.self v) (sym c.self.view_is) c.meet-found.ensures.met in
    let same = sym c.open_generation.ensures ∙ c.if-open_generation-entry.false in
    let at = met_on_duty c.args.pass c.meet-found.result c.loop.self desk met c.args.entry c.loop.invariant.duty c.requires.generation same in
    on_duty_met c.loop.self desk c.args.pass c.meet-found.result c.args.entry c.requires.generation met.step same at

pub loop-preserved : goal.loop-preserved
loop-preserved g c =
    let inside = c.self.inside in
    let desk : ClockView = record { seat = inside.scanner; timers = inside.wheels } in
    let met = subst (λ (v : ClockView). WasMet c.args.pass c.meet-found.result c.loop.self v) (sym c.self.view_is) c.meet-found.ensures.met in
    let same = sym c.open_generation.ensures ∙ c.if-open_generation-entry.false in
    let at = met_on_duty c.args.pass c.meet-found.result c.loop.self desk met c.args.entry c.loop.invariant.duty c.requires.generation same in
    let new : ClockView = record { seat = c.check_deadline.new.self; timers = inside.wheels } in
    let looked = c.in-Unclear.ensures.verdict in
    record {
      only = only_far c.args.pass c.args.self.now desk new
          (only_far c.args.pass c.args.self.now c.loop.self desk c.loop.invariant.only (met_only c.args.pass c.meet-found.result c.loop.self desk met))
          (looked_only inside.scanner c.check_deadline.new.self inside.wheels c.args.pass c.args.entry at c.check_deadline.ensures.went looked);
      duty = looked_on_duty inside.scanner c.check_deadline.new.self inside.wheels c.args.pass c.args.entry at c.check_deadline.ensures.went looked;
      ids = ap (λ (v : ClockView). ids_of v.timers) c.self.view_is ∙ c.meet-found.ensures.ids ∙ c.loop.invariant.ids;
    }

pub invariant_of-self : goal.invariant_of-self
invariant_of-self g c =
    let inside = c.self.inside in
    let looked = c.in-Unclear.ensures.verdict in
    listing_same inside.entries.items inside.scanner c.check_deadline.new.self inside.wheels c.self.invariant c.check_deadline.ensures.went looked.began looked.listing

pub returns-in-Waits-clause-only : goal.returns-in-Waits-clause-only
returns-in-Waits-clause-only g c =
    let inside = c.self.inside in
    let desk : ClockView = record { seat = inside.scanner; timers = inside.wheels } in
    let met = subst (λ (v : ClockView). WasMet c.args.pass c.meet-found.result c.loop.self v) (sym c.self.view_is) c.meet-found.ensures.met in
    let same = sym c.open_generation.ensures ∙ c.if-open_generation-entry.false in
    let at = met_on_duty c.args.pass c.meet-found.result c.loop.self desk met c.args.entry c.loop.invariant.duty c.requires.generation same in
    let new : ClockView = record { seat = c.check_deadline.new.self; timers = inside.wheels } in
    let only = only_far c.args.pass c.args.self.now c.loop.self desk c.loop.invariant.only (met_only c.args.pass c.meet-found.result c.loop.self desk met) in
    only_far c.args.pass c.args.self.now desk new only (left_only inside.scanner c.check_deadline.new.self inside.wheels c.args.pass c.args.entry at c.check_deadline.ensures.went c.in-Waits.ensures.verdict)

pub returns-in-Waits-clause-settled : goal.returns-in-Waits-clause-settled
returns-in-Waits-clause-settled g c =
    let inside = c.self.inside in
    let desk : ClockView = record { seat = inside.scanner; timers = inside.wheels } in
    let met = subst (λ (v : ClockView). WasMet c.args.pass c.meet-found.result c.loop.self v) (sym c.self.view_is) c.meet-found.ensures.met in
    let same = sym c.open_generation.ensures ∙ c.if-open_generation-entry.false in
    let at = met_on_duty c.args.pass c.meet-found.result c.loop.self desk met c.args.entry c.loop.invariant.duty c.requires.generation same in
    let new : ClockView = record { seat = c.check_deadline.new.self; timers = inside.wheels } in
    let only = only_far c.args.pass c.args.self.now c.loop.self desk c.loop.invariant.only (met_only c.args.pass c.meet-found.result c.loop.self desk met) in
    left_settled inside.scanner c.check_deadline.new.self inside.wheels c.args.pass c.args.entry at c.check_deadline.ensures.went c.in-Waits.ensures.verdict

pub returns-in-Over-clause-only : goal.returns-in-Over-clause-only
returns-in-Over-clause-only g c =
    let inside = c.self.inside in
    let desk : ClockView = record { seat = inside.scanner; timers = inside.wheels } in
    let met = subst (λ (v : ClockView). WasMet c.args.pass c.meet-found.result c.loop.self v) (sym c.self.view_is) c.meet-found.ensures.met in
    let same = sym c.open_generation.ensures ∙ c.if-open_generation-entry.false in
    let at = met_on_duty c.args.pass c.meet-found.result c.loop.self desk met c.args.entry c.loop.invariant.duty c.requires.generation same in
    let new : ClockView = record { seat = c.check_deadline.new.self; timers = inside.wheels } in
    let only = only_far c.args.pass c.args.self.now c.loop.self desk c.loop.invariant.only (met_only c.args.pass c.meet-found.result c.loop.self desk met) in
    let generation = ap generation_met (meeting_is c.loop.self.seat inside.scanner c.args.pass c.args.entry.generation c.meet-found.result c.requires.generation met.step same) in
    only_far c.args.pass c.args.self.now desk new only (tried_only inside.scanner c.check_deadline.new.self inside.wheels c.args.pass c.args.entry at c.check_deadline.ensures.went c.in-Over.ensures.verdict generation)

pub returns-in-Over-clause-settled : goal.returns-in-Over-clause-settled
returns-in-Over-clause-settled g c =
    let inside = c.self.inside in
    let desk : ClockView = record { seat = inside.scanner; timers = inside.wheels } in
    let met = subst (λ (v : ClockView). WasMet c.args.pass c.meet-found.result c.loop.self v) (sym c.self.view_is) c.meet-found.ensures.met in
    let same = sym c.open_generation.ensures ∙ c.if-open_generation-entry.false in
    let at = met_on_duty c.args.pass c.meet-found.result c.loop.self desk met c.args.entry c.loop.invariant.duty c.requires.generation same in
    let new : ClockView = record { seat = c.check_deadline.new.self; timers = inside.wheels } in
    let only = only_far c.args.pass c.args.self.now c.loop.self desk c.loop.invariant.only (met_only c.args.pass c.meet-found.result c.loop.self desk met) in
    let generation = ap generation_met (meeting_is c.loop.self.seat inside.scanner c.args.pass c.args.entry.generation c.meet-found.result c.requires.generation met.step same) in
    tried_settled inside.scanner c.check_deadline.new.self inside.wheels c.args.pass c.args.entry at c.check_deadline.ensures.went c.in-Over.ensures.verdict generation

pub invariant_of-self-in-Over : goal.invariant_of-self-in-Over
invariant_of-self-in-Over g c =
    let inside = c.self.inside in
    let desk : ClockView = record { seat = inside.scanner; timers = inside.wheels } in
    let met = subst (λ (v : ClockView). WasMet c.args.pass c.meet-found.result c.loop.self v) (sym c.self.view_is) c.meet-found.ensures.met in
    let same = sym c.open_generation.ensures ∙ c.if-open_generation-entry.false in
    let at = met_on_duty c.args.pass c.meet-found.result c.loop.self desk met c.args.entry c.loop.invariant.duty c.requires.generation same in
    let new : ClockView = record { seat = c.check_deadline.new.self; timers = inside.wheels } in
    let only = only_far c.args.pass c.args.self.now c.loop.self desk c.loop.invariant.only (met_only c.args.pass c.meet-found.result c.loop.self desk met) in
    let generation = ap generation_met (meeting_is c.loop.self.seat inside.scanner c.args.pass c.args.entry.generation c.meet-found.result c.requires.generation met.step same) in
    let table = c.loop.invariant.only.went.table ∙ c.requires.table in
    let passes = ap (λ (v : ClockView). v.seat.table.shape.passes) c.self.view_is ∙ ap (λ (v : ScanView). v.table.shape.passes) c.meet-found.ensures.met.step ∙ ap (λ (t : TableView). t.shape.passes) table in
    let size = c.self.invariant.size in
    let there = c.requires.pass in
    let tried = c.in-Over.ensures.verdict in
    listing_tried inside.entries.items inside.scanner c.check_deadline.new.self inside.wheels c.args.pass c.self.invariant c.check_deadline.ensures.went (omega (arith, passes, size, there)) tried.began
    (tried_gone inside.scanner c.check_deadline.new.self inside.wheels c.args.pass c.args.entry at c.check_deadline.ensures.went tried generation)
