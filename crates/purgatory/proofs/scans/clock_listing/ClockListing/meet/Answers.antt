use Rattle.std.proofs.Common.{◌≡◌, ◌∙◌, true, false, None, ap, arith, get_or, subst, sym}
use Rattle.std.proofs.lemmas.List.{get_or_read}
use Rattle.room_table.specs.Seats.{TableView}
use Rattle.purgatory.specs.scans.Coming.{WasMet, is_stale}
use Rattle.purgatory.specs.scans.Desks.{ClockView}
use Rattle.purgatory.specs.scans.Shelf.{open_generation}
use Rattle.purgatory.proofs.scans.ClockEntries.{listing_dropped, listing_met, met_dropped, met_stays}
use Rattle.purgatory.proofs.scans.clock_listing.ClockListing.meet.Goals as goal

pub invariant_of-self : goal.invariant_of-self
invariant_of-self c =
    let i = c.self.inside in
    let pass = c.args.pass in
    let found = c.meet-found.result in
    let passes = ap (λ (v : ClockView). v.seat.table.shape.passes) c.self.view_is ∙ ap (λ (t : TableView). t.shape.passes) c.requires.table in
    let size = c.self.invariant.size in
    let there = c.requires.pass in
    let kept : c.index.result.now ≡ get_or i.entries.items pass None = get_or_read i.entries.items pass c.index.result.now (omega (arith, passes, there, size)) c.index.ensures None in
    let live : is_stale (get_or i.entries.items pass None) (open_generation found) ≡ false =
    ap (λ o. is_stale o (open_generation found)) (sym kept) ∙ ap (is_stale c.index.result.now) (sym c.open_generation.ensures) ∙ sym c.if-not-is_stale.ensures in
    listing_met i.entries.items i.scanner c.meet-found.new.self i.wheels c.self.invariant pass found c.meet-found.ensures live

pub returns-then-not-is_stale-clause-met : goal.returns-then-not-is_stale-clause-met
returns-then-not-is_stale-clause-met c =
    let i = c.self.inside in
    let pass = c.args.pass in
    let found = c.meet-found.result in
    let passes = ap (λ (v : ClockView). v.seat.table.shape.passes) c.self.view_is ∙ ap (λ (t : TableView). t.shape.passes) c.requires.table in
    let size = c.self.invariant.size in
    let there = c.requires.pass in
    let kept : c.index.result.now ≡ get_or i.entries.items pass None = get_or_read i.entries.items pass c.index.result.now (omega (arith, passes, there, size)) c.index.ensures None in
    let live : is_stale (get_or i.entries.items pass None) (open_generation found) ≡ false =
    ap (λ o. is_stale o (open_generation found)) (sym kept) ∙ ap (is_stale c.index.result.now) (sym c.open_generation.ensures) ∙ sym c.if-not-is_stale.ensures in
    subst (λ (v : ClockView). WasMet pass found v (record { seat = c.meet-found.new.self; timers = i.wheels })) c.self.view_is
    (met_stays i.entries.items i.scanner c.meet-found.new.self i.wheels c.self.invariant pass found c.meet-found.ensures live)

pub invariant_of-self-2 : goal.invariant_of-self-2
invariant_of-self-2 c =
    let i = c.self.inside in
    let pass = c.args.pass in
    let found = c.meet-found.result in
    let passes = ap (λ (v : ClockView). v.seat.table.shape.passes) c.self.view_is ∙ ap (λ (t : TableView). t.shape.passes) c.requires.table in
    let size = c.self.invariant.size in
    let there = c.requires.pass in
    let kept : c.index.result.now ≡ get_or i.entries.items pass None = get_or_read i.entries.items pass c.index.result.now (omega (arith, passes, there, size)) c.index.ensures None in
    let stale : is_stale (get_or i.entries.items pass None) (open_generation found) ≡ true =
    ap (λ o. is_stale o (open_generation found)) (sym kept) ∙ ap (is_stale c.index.result.now) (sym c.open_generation.ensures) ∙ sym c.if-not-is_stale.ensures in
    listing_dropped i.entries.items i.scanner c.meet-found.new.self i.wheels c.self.invariant pass found c.meet-found.ensures stale (omega (arith, passes, there, size))

pub returns-clause-met : goal.returns-clause-met
returns-clause-met c =
    let i = c.self.inside in
    let pass = c.args.pass in
    let found = c.meet-found.result in
    let passes = ap (λ (v : ClockView). v.seat.table.shape.passes) c.self.view_is ∙ ap (λ (t : TableView). t.shape.passes) c.requires.table in
    let size = c.self.invariant.size in
    let there = c.requires.pass in
    let kept : c.index.result.now ≡ get_or i.entries.items pass None = get_or_read i.entries.items pass c.index.result.now (omega (arith, passes, there, size)) c.index.ensures None in
    let stale : is_stale (get_or i.entries.items pass None) (open_generation found) ≡ true =
    ap (λ o. is_stale o (open_generation found)) (sym kept) ∙ ap (is_stale c.index.result.now) (sym c.open_generation.ensures) ∙ sym c.if-not-is_stale.ensures in
    subst (λ (v : ClockView). WasMet pass found v (record { seat = c.meet-found.new.self; timers = i.wheels })) c.self.view_is
    (met_dropped i.entries.items i.scanner c.meet-found.new.self i.wheels c.self.invariant pass found c.meet-found.ensures stale (omega (arith, passes, there, size)))
