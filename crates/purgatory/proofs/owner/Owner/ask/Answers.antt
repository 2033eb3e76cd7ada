use Rattle.std.proofs.Common.{◌∙◌, ap, arith, get_or, refl, subst, sym}
use Rattle.std.specs.Prelude.{max}
use Rattle.room_table.specs.Seats.{CallerView, TableView}
use Rattle.purgatory.specs.Owned.{IsOwner}
use Rattle.purgatory.proofs.Owners.{may_ask, owner_asks, owner_reads}
use Rattle.purgatory.proofs.owner.Owner.ask.Goals as goal

pub ask-requires-clause-may : goal.ask-requires-clause-may
ask-requires-clause-may c =
    let i = c.self.inside in
    let there = c.self.invariant.there in
    let step = c.read-value.ensures.step in
    let passes = ap (λ (v : CallerView). v.table.shape.passes) c.self.view_is ∙ ap (λ (t : TableView). t.shape.passes) c.requires.table in
    let pass = ap (λ (v : CallerView). v.pass) step in
    let gauge = c.requires.gauge in
    let gauges = ap (λ (t : TableView). t.shape.gauges) c.requires.table in
    (omega (arith, there, passes, pass), omega (arith, gauge, gauges), may_ask i.seat c.read-value.new.who c.args.gauge c.read-value.result step)

pub add-requires : goal.add-requires
add-requires c =
    let size = c.self.invariant.size in
    let gauge = c.requires.gauge in
    let gauges = ap (λ (v : CallerView). v.table.shape.gauges) c.self.view_is in
    omega (arith, size, gauge, gauges)

pub invariant_of-self : goal.invariant_of-self
invariant_of-self c =
    let i = c.self.inside in
    let size = c.self.invariant.size in
    let gauge = c.requires.gauge in
    let gauges = ap (λ (v : CallerView). v.table.shape.gauges) c.self.view_is in
    let owed = i.owed in
    let debt = max (get_or owed c.args.gauge 0) c.read-value.result in
    let asked = owner_asks i.number i.generation i.wins i.taken owed c.read-value.new.who c.ask.new.caller c.args.gauge c.read-value.result debt
    (owner_reads i.number i.generation i.wins i.taken owed i.seat c.read-value.new.who c.args.gauge c.read-value.result c.self.invariant c.read-value.ensures.step)
    c.ask.ensures refl (omega (arith, size, gauge, gauges)) in
    subst (λ debts. IsOwner i.number i.generation i.wins i.taken debts c.ask.new.caller) (sym c.add.ensures) asked
