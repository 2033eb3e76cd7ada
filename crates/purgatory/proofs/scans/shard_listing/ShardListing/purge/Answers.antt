use Rattle.std.proofs.Common.{⊎_elim, ◌≡◌, ◌∙◌, ◌↔◌, ℕ, ◌+◌, ◌<◌, ◌≤◌, List, ap, arith, length-set, set, subst, sym}
use Rattle.std.specs.Prelude.{slice_index}
use Rattle.std.proofs.lemmas.Bool.{cases_lt}
use Rattle.std.proofs.lemmas.List.{length-map}
use Rattle.room_core.specs.Scans.{HasNoDuty}
use Rattle.room_table.specs.declared.part.ScannerStep.{ScannerStep}
use Rattle.room_table.specs.Seats.{ScanView, scanner_now}
use Rattle.watch_lists.specs.Watches.{IsListed, Watches, keys_of}
use Rattle.purgatory.specs.scans.Going.{HasMet}
use Rattle.purgatory.specs.scans.ShardKeeps.{AreEntries}
use Rattle.purgatory.specs.scans.Shelf.{open_generation}
use Rattle.purgatory.proofs.scans.Entries.{entries_by}
use Rattle.purgatory.proofs.scans.Goes.{goes_by, met_now, met_then, one_step}
use Rattle.purgatory.proofs.scans.Purging.{entries_purged, meets_no_duty}
use Rattle.purgatory.proofs.scans.Shelves.{shelf_after}
use Rattle.purgatory.proofs.scans.shard_listing.ShardListing.purge.Goals as goal

pub loop-pass-preserved : goal.loop-pass-preserved
loop-pass-preserved c =
    let first = c.self.inside in
    let now = c.loop-pass.self-inside in
    let i = c.loop-pass.invariant in
    let pass = c.loop-pass.pass in
    let new = c.meet-found.new.self in
    let found = c.meet-found.result in
    let size = i.size in
    let kept = c.self.invariant.kept in
    let end = c.len-pass-end.ensures in
    let test = c.loop-pass-test.true in
    record {
      went = goes_by first.scanner now.scanner new (ScannerStep.Met pass found) i.went c.meet-found.ensures;
      shard = i.shard;
      size = length-set now.generations.items pass c.open_generation.result ∙ i.size;
      entries = subst (λ n. AreEntries first.scanner.table.shape first.scanner.scanner (λ key p g. IsListed first.shard key p g × (p < pass + 1 → g ≡ slice_index (set now.generations.items pass n) p)) (scanner_now new)) (sym c.open_generation.ensures)
          (subst (λ (v : ScanView). AreEntries first.scanner.table.shape first.scanner.scanner (λ key p g. IsListed first.shard key p g × (p < pass + 1 → g ≡ slice_index (set now.generations.items pass (open_generation found)) p)) (scanner_now v)) (sym c.meet-found.ensures)
          (entries_purged first.scanner.table.shape first.scanner.scanner (IsListed first.shard) (scanner_now now.scanner) now.generations.items pass found (omega (arith, size, kept, end, test)) (λ key p g h. (c.self.invariant.one key p g h).1) i.entries));
      met = λ p less.
          ⊎_elim
          (λ (l : p < pass). met_then p first.scanner now.scanner new (i.met p l) (one_step now.scanner new (ScannerStep.Met pass found) c.meet-found.ensures))
          (λ (m : pass ≤ p). let same : p ≡ pass = omega (arith, less, m) in subst (λ n. HasMet n first.scanner new) (sym same) (met_now pass first.scanner now.scanner new found i.went c.meet-found.ensures))
          (cases_lt p pass);
      no_duty = λ none. subst (λ (v : ScanView). HasNoDuty (scanner_now v)) (sym c.meet-found.ensures) (meets_no_duty (scanner_now now.scanner) pass found (i.no_duty none));
    }

pub invariant_of-self : goal.invariant_of-self
invariant_of-self c =
    let first = c.self.inside in
    let now = c.loop-pass.self-inside in
    let i = c.loop-pass.invariant in
    let live = now.generations.items in
    let inv = c.self.invariant in
    let kept = inv.kept in
    let passes = inv.passes in
    let end = c.len-pass-end.ensures in
    let test = c.loop-pass-test.false in
    let value : c.as_slice.result.now ≡ live = c.as_slice.ensures.value in
    let old_is : (key p g : ℕ) → IsListed c.purge.new.self key p g ↔ (IsListed first.shard key p g × (g ≡ slice_index live p)) =
    subst (λ (w : Watches). (key p g : ℕ) → IsListed c.purge.new.self key p g ↔ (IsListed w key p g × (g ≡ slice_index live p))) i.shard
    (subst (λ (xs : List ℕ). (key p g : ℕ) → IsListed c.purge.new.self key p g ↔ (IsListed now.shard key p g × (g ≡ slice_index xs p))) value c.purge.ensures.listed) in
    shelf_after first.generations.items live first.scanner now.scanner first.shard c.purge.new.self inv i.went
    (ap (λ (w : Watches). w.ids) c.purge.ensures.live ∙ ap (λ (w : Watches). w.ids) i.shard)
    (ap keys_of c.purge.ensures.live ∙ length-map now.shard.rows _ ∙ ap keys_of i.shard)
    (i.size ∙ sym kept)
    (entries_by first.scanner.table.shape first.scanner.scanner (λ key p g. IsListed first.shard key p g × (p < c.loop-pass.pass → g ≡ slice_index live p)) (IsListed c.purge.new.self) (scanner_now now.scanner)
    (λ key p g. (
      λ h. let was = (old_is key p g).0 h in (was.0, λ l. was.1),
      λ h. let within = (c.watchers_rise.ensures.within key p g h.0).1 in (old_is key p g).1 (h.0, h.1 (omega (arith, within, passes, kept, end, test))),
    ))
    i.entries)
    (λ key p g h. let was = (old_is key p g).0 h in (was.1, (inv.one key p g was.0).1))
