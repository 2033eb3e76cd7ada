use Rattle.std.proofs.Common.{◌≡◌, ◌∙◌, ℕ, ◌<◌, List, ap, arith, length, subst}
use Rattle.std.specs.Prelude.{slice_index}
use Rattle.room_core.specs.Gauges.{clock_of}
use Rattle.purgatory.specs.scans.Coming.{ChangesOnly, IsSettled}
use Rattle.purgatory.proofs.scans.Coming.{coming_less}
use Rattle.purgatory.proofs.scans.Duties.{has_scanned}
use Rattle.purgatory.proofs.scans.Goes.{goes_far}
use Rattle.purgatory.proofs.scans.clock_listing.ClockListing.scan.Goals as goal

pub loop-place-preserved : goal.loop-place-preserved
loop-place-preserved g c =
    let i = c.loop-place.invariant in
    let old = c.loop-place.self in
    let new = c.check.new.self in
    let ids = c.begin.new.due.ids in
    let place = c.loop-place.place in
    let end : length c.ids-place-end.result.now ≡ length c.begin.new.due.ids = ap length c.ids-place-end.ensures in
    let test = c.loop-place-test.true in
    let there : place < length ids = omega (arith, test, end) in
    let is : slice_index c.ids.result.now place ≡ slice_index ids place = ap (λ (xs : List ℕ). slice_index xs place) c.ids.ensures in
    let only = subst (λ p. ChangesOnly p old new) is c.check.ensures.only in
    let settled = subst (λ p. IsSettled p new) is c.check.ensures.settled in
    record {
      went = goes_far c.begin.new.self.seat old.seat new.seat i.went only.went;
      began = only.began ∙ i.began;
      ids = c.check.ensures.ids ∙ i.ids;
      coming = coming_less place ids old new c.begin.ensures.rising there i.coming only settled;
    }

pub returns-clause-scanned : goal.returns-clause-scanned
returns-clause-scanned g c =
    let i = c.loop-place.invariant in
    has_scanned (clock_of c.args.table.now.shape) c.begin.result c.args.self.now.seat c.begin.new.self.seat c.loop-place.self.seat
    c.begin.ensures.step c.begin.ensures.least i.went i.began
