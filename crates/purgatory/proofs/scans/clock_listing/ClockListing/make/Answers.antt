use Rattle.std.proofs.Common.{inr, ◌≡◌, ◌∙◌, None, ap, refl, replicate, rules, subst, sym}
use Rattle.room_core.specs.declared.shape.Shape.{Shape}
use Rattle.room_core.specs.Gauges.{IsShape}
use Rattle.room_table.specs.Seats.{ScanView}
use Rattle.purgatory.proofs.scans.ClockEntries.{listing_fresh, settled_fresh}
use Rattle.purgatory.proofs.scans.clock_listing.ClockListing.make.Goals as goal

pub make-requires-clause-number : goal.make-requires-clause-number
make-requires-clause-number c = (sym c.requires.number, inr refl)

pub invariant_of-result : goal.invariant_of-result
invariant_of-result c =
    let seat = c.in_ok-scanner.scanner in
    let n = c.args.shape.passes in
    let is : seat ≡ c.args.seat = c.in_ok-scanner.ensures in
    let shape : c.args.shape ≡ seat.table.shape = c.requires.shape.0 ∙ sym (ap (λ (v : ScanView). v.table.shape) is) in
    let entries : c.in_ok-entries.entries.items ≡ replicate n None = search rules in
    listing_fresh seat c.in_ok-wheels.wheels n (ap (λ (v : ScanView). v.steps) is ∙ c.requires.fresh) c.in_ok-wheels.ensures
    (subst (λ (s : Shape). IsShape s) shape c.requires.shape.1) (ap (λ (s : Shape). s.scanners) (sym shape) ∙ c.requires.shape.2) (ap (λ (v : ScanView). v.scanner) is ∙ c.requires.number) (ap (λ (s : Shape). s.passes) shape)
    c.in_ok-entries.entries.items entries

pub returns-clause-listed : goal.returns-clause-listed
returns-clause-listed c =
    let seat = c.in_ok-scanner.scanner in
    let n = c.args.shape.passes in
    let is : seat ≡ c.args.seat = c.in_ok-scanner.ensures in
    let shape : c.args.shape ≡ seat.table.shape = c.requires.shape.0 ∙ sym (ap (λ (v : ScanView). v.table.shape) is) in
    let entries : c.in_ok-entries.entries.items ≡ replicate n None = search rules in (
      c.in_ok-entries.entries.items,
      listing_fresh seat c.in_ok-wheels.wheels n (ap (λ (v : ScanView). v.steps) is ∙ c.requires.fresh) c.in_ok-wheels.ensures
          (subst (λ (s : Shape). IsShape s) shape c.requires.shape.1) (ap (λ (s : Shape). s.scanners) (sym shape) ∙ c.requires.shape.2) (ap (λ (v : ScanView). v.scanner) is ∙ c.requires.number) (ap (λ (s : Shape). s.passes) shape)
          c.in_ok-entries.entries.items entries,
    )

pub returns-clause-settled : goal.returns-clause-settled
returns-clause-settled c =
    let seat = c.in_ok-scanner.scanner in
    let is : seat ≡ c.args.seat = c.in_ok-scanner.ensures in
    settled_fresh seat c.in_ok-wheels.wheels c.args.shape.passes (ap (λ (v : ScanView). v.steps) is ∙ c.requires.fresh) c.in_ok-wheels.ensures
