use Rattle.std.proofs.Common.{◌≡◌, ◌∙◌, ap, arith, subst, sym}
use Rattle.room_core.specs.declared.shape.Shape.{Shape}
use Rattle.room_core.specs.Meetings.{IsMet}
use Rattle.room_table.specs.Seats.{ScanView, scanner_now}
use Rattle.purgatory.proofs.scans.Inspecting.{read}
use Rattle.purgatory.proofs.scans.inspector.Inspector.read.Goals as goal

pub invariant_of-self : goal.invariant_of-self
invariant_of-self c =
    let i = c.self.inside in
    let size : i.shape.gauges ≡ c.args.self.now.table.shape.gauges = ap (λ (s : Shape). s.gauges) c.self.invariant.shape_is ∙ ap (λ (v : ScanView). v.table.shape.gauges) c.self.view_is in
    let there = c.requires.gauge in
    let met = subst (λ (v : ScanView). IsMet (scanner_now v).meeting c.requires.met.0) (sym c.self.view_is) c.requires.met.1 in
    read i.shape i.number i.words.items i.values.items i.wins i.seat c.read-value.new.who c.self.invariant c.requires.met.0 c.args.gauge c.read-value.result met (omega (arith, there, size)) c.read-value.ensures.step
