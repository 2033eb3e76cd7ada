use Rattle.std.proofs.Common.{◌∙◌, ap, arith, subst, sym}
use Rattle.room_table.specs.declared.part.CallerStep.{CallerStep}
use Rattle.room_table.specs.Seats.{CallerView, caller_did}
use Rattle.purgatory.specs.Owned.{IsOwner}
use Rattle.purgatory.proofs.Owners.{owner_paid, owner_still, relieves, relieves_paid}
use Rattle.purgatory.proofs.owner.Owner.relieve.Goals as goal

pub of-owed-requires : goal.of-owed-requires
of-owed-requires c =
    let size = c.self.invariant.size in
    let gauge = c.requires.gauge in
    let gauges = ap (λ (v : CallerView). v.table.shape.gauges) c.self.view_is in
    omega (arith, size, gauge, gauges)

pub clear-requires : goal.clear-requires
clear-requires c =
    let size = c.self.invariant.size in
    let gauge = c.requires.gauge in
    let gauges = ap (λ (v : CallerView). v.table.shape.gauges) c.self.view_is in
    omega (arith, size, gauge, gauges)

pub invariant_of-self : goal.invariant_of-self
invariant_of-self c =
    let i = c.self.inside in
    let size = c.self.invariant.size in
    let gauge = c.requires.gauge in
    let gauges = ap (λ (v : CallerView). v.table.shape.gauges) c.self.view_is in
    let owed = c.of-owed.ensures in
    let more = c.if-owed-relieve.true in
    owner_still i.number i.generation i.wins i.taken i.owed i.seat c.relieve.new.caller c.args.gauge c.relieve.result c.self.invariant c.relieve.ensures (omega (arith, owed, more))

pub returns-then-owed-relieve-clause-pays : goal.returns-then-owed-relieve-clause-pays
returns-then-owed-relieve-clause-pays c =
    relieves c.args.self.now c.relieve.new.caller c.args.gauge c.relieve.result (c.relieve.ensures ∙ ap (λ (v : CallerView). caller_did v (CallerStep.Relieved c.args.gauge c.relieve.result)) c.self.view_is)

pub invariant_of-self-2 : goal.invariant_of-self-2
invariant_of-self-2 c =
    let i = c.self.inside in
    let size = c.self.invariant.size in
    let gauge = c.requires.gauge in
    let gauges = ap (λ (v : CallerView). v.table.shape.gauges) c.self.view_is in
    let owed = c.of-owed.ensures in
    let paid = c.if-owed-relieve.false in
    let then = owner_paid i.number i.generation i.wins i.taken i.owed i.seat c.relieve.new.caller c.args.gauge c.relieve.result c.self.invariant c.relieve.ensures (omega (arith, owed, paid)) (omega (arith, size, gauge, gauges)) in
    subst (λ debts. IsOwner i.number i.generation i.wins i.taken debts c.relieve.new.caller) (sym c.clear.ensures) then

pub returns-clause-pays : goal.returns-clause-pays
returns-clause-pays c =
    relieves c.args.self.now c.relieve.new.caller c.args.gauge c.relieve.result (c.relieve.ensures ∙ ap (λ (v : CallerView). caller_did v (CallerStep.Relieved c.args.gauge c.relieve.result)) c.self.view_is)

pub returns-clause-paid : goal.returns-clause-paid
returns-clause-paid c _ =
    let i = c.self.inside in
    let size = c.self.invariant.size in
    let gauge = c.requires.gauge in
    let gauges = ap (λ (v : CallerView). v.table.shape.gauges) c.self.view_is in
    let owed = c.of-owed.ensures in
    let paid = c.if-owed-relieve.false in
    relieves_paid i.number i.generation i.wins i.taken i.owed i.seat c.relieve.new.caller c.args.gauge c.relieve.result c.self.invariant c.relieve.ensures (omega (arith, owed, paid))
