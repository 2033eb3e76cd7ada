use Rattle.std.proofs.Common.{◌∙◌, ◌/◌, ap, arith, subst, sym}
use Rattle.room_core.specs.Gauges.{IsGaugeOf}
use Rattle.room_table.specs.Seats.{TableView}
use Rattle.purgatory.specs.scans.Desks.{ShardView}
use Rattle.purgatory.proofs.scans.Duties.{begins_duties}
use Rattle.purgatory.proofs.scans.Gauges.{key_few}
use Rattle.purgatory.proofs.scans.shard_listing.ShardListing.begin.Goals as goal

pub returns-clause-duties : goal.returns-clause-duties
returns-clause-duties c =
    let i = c.self.inside in
    let inv = c.self.invariant in
    let scanner = ap (λ (v : ShardView). v.seat.scanner) c.self.view_is in
    let table = ap (λ (v : ShardView). v.seat.table) c.self.view_is ∙ c.requires.table in
    let own = subst (λ k. IsGaugeOf i.scanner.table.shape k c.args.gauge) (sym scanner) (subst (λ (t : TableView). IsGaugeOf t.shape c.args.self.now.seat.scanner c.args.gauge) (sym table) c.requires.gauge) in
    let few = key_few i.scanner.table.shape i.scanner.scanner c.args.gauge inv.shape inv.number own in
    let keys = inv.keys in
    λ count all. begins_duties i.scanner c.begin.new.self i.shard c.args.gauge c.begin.result count inv.scanners inv.number own inv.entries (c.watchers_rise.ensures.rows (c.args.gauge / 16) (omega (arith, few, keys))) all c.begin.ensures.step
