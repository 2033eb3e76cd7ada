use Rattle.std.proofs.Common.{◌≡◌, ◌∙◌, ◌%◌, ◌-◌, ◌<◌, ap, arith, eqb-true, sym}
use Rattle.std.proofs.lemmas.Bool.{eq-eqb}
use Rattle.room_core.specs.declared.shape.Shape.{Shape}
use Rattle.room_table.specs.Seats.{ScanView}
use Rattle.purgatory.proofs.scans.Gauges.{gauge_owned, owner_is}
use Rattle.purgatory.proofs.scans.inspector.Inspector.owns.Goals as goal

pub returns-then-gauge-from-clause-own : goal.returns-then-gauge-from-clause-own
returns-then-gauge-from-clause-own c =
    let now = c.args.self.now in
    let i = c.self.inside in
    let shape : i.shape ≡ now.table.shape = c.self.invariant.shape_is ∙ ap (λ (v : ScanView). v.table.shape) c.self.view_is in
    let number : i.number ≡ now.scanner = c.self.invariant.number_is ∙ ap (λ (v : ScanView). v.scanner) c.self.view_is in
    let gauges = ap (λ (s : Shape). s.gauges) shape in
    let below = c.if-gauge-from.true in
    let sum = c.from.ensures in
    let few : c.args.gauge < now.table.shape.gauges - 1 = omega (arith, below, sum, gauges) in
    let by : c.from-then-gauge-from.result ≡ 16 = c.from-then-gauge-from.ensures in
    let own : c.from-then-gauge-from-2.result ≡ now.scanner = c.from-then-gauge-from-2.ensures ∙ number in (
      λ e. gauge_owned now.table.shape now.scanner c.args.gauge c.requires.0 few (ap (λ n. c.args.gauge % n) (sym by) ∙ eqb-true _ _ e ∙ own),
      λ h. eq-eqb _ _ (ap (λ n. c.args.gauge % n) by ∙ owner_is now.table.shape now.scanner c.args.gauge c.requires.0 h.0 h.1 ∙ sym own),
    )
