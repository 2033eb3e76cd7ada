use Rattle.std.proofs.Common.{◌≡◌, ◌∙◌, ℕ, ◌+◌, ◌*◌, ◌<◌, List, length, set, ap, arith, subst, sym}
use Rattle.std.specs.Prelude.{nat_le, slice_index}
use Rattle.std.proofs.lemmas.List.{get_or_default, length-set}
use Rattle.room_core.specs.declared.shape.Shape.{Shape}
use Rattle.room_core.specs.Description.{tally_below}
use Rattle.room_table.specs.declared.part.ScannerStep.{ScannerStep}
use Rattle.room_table.specs.Seats.{ScanView, scanner_did, scanner_now}
use Rattle.purgatory.specs.scans.Inspected.{IsInspector}
use Rattle.purgatory.proofs.scans.Ending.{needs_let_go, needs_looked, needs_may}
use Rattle.purgatory.proofs.scans.Goes.{one_step}
use Rattle.purgatory.proofs.scans.Inspecting.{left}
use Rattle.purgatory.proofs.scans.Leaving.{gauges_there}
use Rattle.purgatory.proofs.scans.inspector.Inspector.leave_needs.Goals as goal

pub tally-total-requires-clause-gauges : goal.tally-total-requires-clause-gauges
tally-total-requires-clause-gauges c n l =
    let i = c.self.inside in
    let inv = subst (λ (v : ScanView). IsInspector i.shape i.number i.words.items i.values.items i.wins v) c.self.view_is c.self.invariant in
    let same = ap (λ (s : Shape). s.gauges) inv.shape_is in
    let words = ap (λ (w : List ℕ). slice_index w (3 + 3 * n)) c.as_slice.ensures.value in
    let size = ap (λ (v : List ℕ). length v) c.as_slice-2.ensures.value ∙ length-set i.values.items c.args.last c.leave-value.result in
    let below = gauges_there i.shape c.args.self.now.scanner (scanner_now c.args.self.now) i.words.items i.values.items c.args.last c.leave-value.result c.args.needs inv.learned inv.read c.requires.on.learned c.requires.needs
    inv.values_size (λ k m. let there = c.requires.there k m in omega (arith, there, same)) n l in
    omega (arith, words, size, below)

pub invariant_of-self : goal.invariant_of-self
invariant_of-self c =
    let i = c.self.inside in
    let inv = subst (λ (v : ScanView). IsInspector i.shape i.number i.words.items i.values.items i.wins v) c.self.view_is c.self.invariant in
    let same = ap (λ (s : Shape). s.gauges) inv.shape_is in
    let there = c.requires.last in
    left i.shape i.number i.words.items i.values.items i.wins i.seat c.leave-value.new.who c.self.invariant c.args.pass c.args.last c.leave-value.result (omega (arith, same, there)) c.leave-value.ensures.step

pub returns-clause-went : goal.returns-clause-went
returns-clause-went c =
    let step = c.leave-value.ensures.step ∙ ap (λ (v : ScanView). scanner_did v (ScannerStep.Left c.args.pass c.args.last c.leave-value.result)) c.self.view_is in
    one_step c.args.self.now c.leave-value.new.who (ScannerStep.Left c.args.pass c.args.last c.leave-value.result) step

pub returns-clause-looked : goal.returns-clause-looked
returns-clause-looked c e =
    let i = c.self.inside in
    let now = c.args.self.now in
    let value = c.leave-value.result in
    let last = c.args.last in
    let inv = subst (λ (v : ScanView). IsInspector i.shape i.number i.words.items i.values.items i.wins v) c.self.view_is c.self.invariant in
    let step = c.leave-value.ensures.step ∙ ap (λ (v : ScanView). scanner_did v (ScannerStep.Left c.args.pass last value)) c.self.view_is in
    let size = inv.words_size in
    let same = ap (λ (s : Shape). s.gauges) inv.shape_is in
    let there = c.requires.last in
    let less : last < i.shape.gauges = omega (arith, same, there) in
    let word : c.from.result ≡ slice_index i.words.items 0 = c.from.ensures ∙ c.index.ensures ∙ get_or_default i.words.items 0 _ 0 (omega (arith, size)) in
    let total : c.tally-total.result ≡ tally_below (slice_index i.words.items) (slice_index (set i.values.items last value)) c.args.needs =
    c.tally-total.ensures
    ∙ ap (λ (w : List ℕ). tally_below (slice_index w) (slice_index c.as_slice-2.result.now) c.args.needs) c.as_slice.ensures.value
    ∙ ap (λ (v : List ℕ). tally_below (slice_index i.words.items) (slice_index v) c.args.needs) c.as_slice-2.ensures.value in
    needs_looked i.shape i.number i.words.items i.values.items i.wins now c.leave-value.new.who inv c.args.pass last value c.args.needs step less c.requires.shard c.requires.on c.requires.read c.requires.needs
    (ap (λ n. nat_le n (tally_below (slice_index i.words.items) (slice_index (set i.values.items last value)) c.args.needs)) (sym word) ∙ ap (λ n. nat_le c.from.result n) (sym total) ∙ e)

pub returns-clause-may : goal.returns-clause-may
returns-clause-may c e =
    let i = c.self.inside in
    let now = c.args.self.now in
    let value = c.leave-value.result in
    let last = c.args.last in
    let inv = subst (λ (v : ScanView). IsInspector i.shape i.number i.words.items i.values.items i.wins v) c.self.view_is c.self.invariant in
    let step = c.leave-value.ensures.step ∙ ap (λ (v : ScanView). scanner_did v (ScannerStep.Left c.args.pass last value)) c.self.view_is in
    let size = inv.words_size in
    let same = ap (λ (s : Shape). s.gauges) inv.shape_is in
    let there = c.requires.last in
    let less : last < i.shape.gauges = omega (arith, same, there) in
    let word : c.from.result ≡ slice_index i.words.items 0 = c.from.ensures ∙ c.index.ensures ∙ get_or_default i.words.items 0 _ 0 (omega (arith, size)) in
    let total : c.tally-total.result ≡ tally_below (slice_index i.words.items) (slice_index (set i.values.items last value)) c.args.needs =
    c.tally-total.ensures
    ∙ ap (λ (w : List ℕ). tally_below (slice_index w) (slice_index c.as_slice-2.result.now) c.args.needs) c.as_slice.ensures.value
    ∙ ap (λ (v : List ℕ). tally_below (slice_index i.words.items) (slice_index v) c.args.needs) c.as_slice-2.ensures.value in
    needs_may i.shape i.number i.words.items i.values.items i.wins now c.leave-value.new.who inv c.args.pass last value c.args.needs step less c.requires.shard c.requires.on c.requires.read c.requires.needs
    c.requires.pass (ap (λ n. nat_le n (tally_below (slice_index i.words.items) (slice_index (set i.values.items last value)) c.args.needs)) (sym word) ∙ ap (λ n. nat_le c.from.result n) (sym total) ∙ e)

pub returns-clause-left : goal.returns-clause-left
returns-clause-left c e =
    let i = c.self.inside in
    let now = c.args.self.now in
    let value = c.leave-value.result in
    let last = c.args.last in
    let inv = subst (λ (v : ScanView). IsInspector i.shape i.number i.words.items i.values.items i.wins v) c.self.view_is c.self.invariant in
    let step = c.leave-value.ensures.step ∙ ap (λ (v : ScanView). scanner_did v (ScannerStep.Left c.args.pass last value)) c.self.view_is in
    let size = inv.words_size in
    let same = ap (λ (s : Shape). s.gauges) inv.shape_is in
    let there = c.requires.last in
    let less : last < i.shape.gauges = omega (arith, same, there) in
    let word : c.from.result ≡ slice_index i.words.items 0 = c.from.ensures ∙ c.index.ensures ∙ get_or_default i.words.items 0 _ 0 (omega (arith, size)) in
    let total : c.tally-total.result ≡ tally_below (slice_index i.words.items) (slice_index (set i.values.items last value)) c.args.needs =
    c.tally-total.ensures
    ∙ ap (λ (w : List ℕ). tally_below (slice_index w) (slice_index c.as_slice-2.result.now) c.args.needs) c.as_slice.ensures.value
    ∙ ap (λ (v : List ℕ). tally_below (slice_index i.words.items) (slice_index v) c.args.needs) c.as_slice-2.ensures.value in
    needs_let_go i.shape i.number i.words.items i.values.items i.wins now c.leave-value.new.who inv c.args.pass last value c.args.needs step less c.requires.shard c.requires.on c.requires.read c.requires.needs
    (ap (λ n. nat_le n (tally_below (slice_index i.words.items) (slice_index (set i.values.items last value)) c.args.needs)) (sym word) ∙ ap (λ n. nat_le c.from.result n) (sym total) ∙ e)
