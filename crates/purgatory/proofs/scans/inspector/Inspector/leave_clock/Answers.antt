use Rattle.std.proofs.Common.{◌≡◌, ◌∙◌, ◌-◌, ap, arith, subst, sym}
use Rattle.std.specs.Prelude.{nat_le, slice_index}
use Rattle.std.proofs.lemmas.List.{get_or_default}
use Rattle.room_table.specs.declared.part.ScannerStep.{ScannerStep}
use Rattle.room_table.specs.Seats.{ScanView, scanner_did}
use Rattle.purgatory.specs.scans.Inspected.{IsInspector}
use Rattle.purgatory.proofs.scans.Ending.{clock_lets_go, clock_looked, clock_may}
use Rattle.purgatory.proofs.scans.Goes.{one_step}
use Rattle.purgatory.proofs.scans.Inspecting.{left}
use Rattle.purgatory.proofs.scans.inspector.Inspector.leave_clock.Goals as goal

pub invariant_of-self : goal.invariant_of-self
invariant_of-self c =
    let i = c.self.inside in
    let some = c.self.invariant.is_shape.some_gauges in
    left i.shape i.number i.words.items i.values.items i.wins i.seat c.leave-moment.new.who c.self.invariant c.args.pass (i.shape.gauges - 1) c.leave-moment.result (omega (arith, some)) c.leave-moment.ensures.step

pub returns-clause-went : goal.returns-clause-went
returns-clause-went c =
    let i = c.self.inside in
    let step = c.leave-moment.ensures.step ∙ ap (λ (v : ScanView). scanner_did v (ScannerStep.Left c.args.pass (i.shape.gauges - 1) c.leave-moment.result)) c.self.view_is in
    one_step c.args.self.now c.leave-moment.new.who (ScannerStep.Left c.args.pass (i.shape.gauges - 1) c.leave-moment.result) step

pub returns-clause-looked : goal.returns-clause-looked
returns-clause-looked c e =
    let i = c.self.inside in
    let inv = subst (λ (v : ScanView). IsInspector i.shape i.number i.words.items i.values.items i.wins v) c.self.view_is c.self.invariant in
    let step = c.leave-moment.ensures.step ∙ ap (λ (v : ScanView). scanner_did v (ScannerStep.Left c.args.pass (i.shape.gauges - 1) c.leave-moment.result)) c.self.view_is in
    let size = inv.words_size in
    let word : c.index.result.now ≡ slice_index i.words.items 1 = c.index.ensures ∙ get_or_default i.words.items 1 _ 0 (omega (arith, size)) in
    clock_looked i.shape i.number i.words.items i.values.items i.wins c.args.self.now c.leave-moment.new.who inv c.args.pass c.leave-moment.result step c.requires.clock c.requires.on
    (ap (λ n. nat_le n c.leave-moment.result) (sym word) ∙ e)

pub returns-clause-may : goal.returns-clause-may
returns-clause-may c e =
    let i = c.self.inside in
    let inv = subst (λ (v : ScanView). IsInspector i.shape i.number i.words.items i.values.items i.wins v) c.self.view_is c.self.invariant in
    let step = c.leave-moment.ensures.step ∙ ap (λ (v : ScanView). scanner_did v (ScannerStep.Left c.args.pass (i.shape.gauges - 1) c.leave-moment.result)) c.self.view_is in
    let size = inv.words_size in
    let word : c.index.result.now ≡ slice_index i.words.items 1 = c.index.ensures ∙ get_or_default i.words.items 1 _ 0 (omega (arith, size)) in
    clock_may i.shape i.number i.words.items i.values.items i.wins c.args.self.now c.leave-moment.new.who inv c.args.pass c.leave-moment.result step c.requires.clock c.requires.on
    c.requires.pass (ap (λ n. nat_le n c.leave-moment.result) (sym word) ∙ e)

pub returns-clause-left : goal.returns-clause-left
returns-clause-left c e =
    let i = c.self.inside in
    let inv = subst (λ (v : ScanView). IsInspector i.shape i.number i.words.items i.values.items i.wins v) c.self.view_is c.self.invariant in
    let step = c.leave-moment.ensures.step ∙ ap (λ (v : ScanView). scanner_did v (ScannerStep.Left c.args.pass (i.shape.gauges - 1) c.leave-moment.result)) c.self.view_is in
    let size = inv.words_size in
    let word : c.index.result.now ≡ slice_index i.words.items 1 = c.index.ensures ∙ get_or_default i.words.items 1 _ 0 (omega (arith, size)) in
    clock_lets_go i.shape i.number i.words.items i.values.items i.wins c.args.self.now c.leave-moment.new.who inv c.args.pass c.leave-moment.result step c.requires.clock c.requires.on
    (ap (λ n. nat_le n c.leave-moment.result) (sym word) ∙ e)
