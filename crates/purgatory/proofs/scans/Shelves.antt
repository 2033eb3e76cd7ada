-- A shard's listing after a step.
use Rattle.std.proofs.Common.{⊎_elim, ◌≡◌, ◌≢◌, ◌∙◌, ◌↔◌, ℕ, ◌<◌, ◌≤◌, List, [], true, get_or, set, length, length-set, ap, refl, subst, sym, arith}
use Rattle.std.specs.Prelude.{slice_index}
use Rattle.std.proofs.lemmas.Bool.{cases_eq, cases_lt}
use Rattle.std.proofs.lemmas.List.{get_or-set_other, get_or_past}
use Rattle.room_core.specs.declared.parts.Session.{Session}
use Rattle.room_core.specs.Meetings.{is_live}
use Rattle.room_table.specs.declared.part.ScannerStep.{ScannerStep}
use Rattle.room_core.specs.Gauges.{IsShape}
use Rattle.room_table.specs.Seats.{ScanView, TableView, scanner_did, scanner_now}
use Rattle.watch_lists.specs.Watches.{IsListed, Watches, keys_of}
use Rattle.purgatory.specs.scans.Checked.{without_entry}
use Rattle.purgatory.specs.scans.Desks.{ShardView}
use Rattle.purgatory.specs.scans.Going.{GoesOn}
use Rattle.purgatory.specs.scans.ShardKeeps.{AreEntries, gauge_of_key}
use Rattle.purgatory.specs.scans.Shelf.{IsShelf, open_generation}
use Rattle.purgatory.proofs.scans.Entries.{entries_by, entries_dropped, entries_met}
use Rattle.purgatory.proofs.scans.Sessions.{is_live_at, live_at}

abbrev desk_of : ScanView → Watches → ShardView
desk_of seat watches = record { seat = seat; watches = watches }

-- what is listed has a key
pub listed_within : (w : Watches) (key pass generation : ℕ) → IsListed w key pass generation → key < keys_of w
listed_within w key pass generation h =
    ⊎_elim
    (λ (l : key < keys_of w). l)
    (λ (m : keys_of w ≤ key).
    let there : h.0 < length (get_or w.rows key []) = h.1 in
    let none : length (get_or w.rows key []) ≡ 0 = ap length (get_or_past w.rows key [] m) in
    absurd (omega (arith, there, none)))
    (cases_lt key (keys_of w))

module _ (generations : List ℕ) (seat new : ScanView) (w : Watches) (i : IsShelf generations (desk_of seat w)) (pass : ℕ) (found : Session)
    (step : new ≡ scanner_did seat (ScannerStep.Met pass found)) where
  -- a meeting that finds the pass open at the generation of its watchers
  pub shelf_met : slice_index generations pass ≡ open_generation found → IsShelf generations (desk_of new w)
  shelf_met same = subst (λ (v : ScanView). IsShelf generations (desk_of v w)) (sym step) (record {
    shape = i.shape;
    scanners = i.scanners;
    number = i.number;
    passes = i.passes;
    keys = i.keys;
    kept = i.kept;
    entries = entries_by seat.table.shape seat.scanner (λ key p g. IsListed w key p g × (p ≡ pass → is_live found g ≡ true)) (IsListed w) (scanner_now (scanner_did seat (ScannerStep.Met pass found)))
        (λ key p g. (
          λ h. let one = i.one key p g h in (h, λ e. is_live_at found g one.1 (one.0 ∙ ap (slice_index generations) e ∙ same)),
          λ h. h.0,
        ))
        (entries_met seat.table.shape seat.scanner (IsListed w) (scanner_now seat) pass found i.entries);
    one = i.one;
  })

  -- and one that doesn't: they go
  pub shelf_dropped : (less : Watches) → less.ids ≡ w.ids → keys_of less ≡ 12 → slice_index generations pass ≢ open_generation found
      → ((k p g : ℕ) → IsListed less k p g ↔ (IsListed w k p g × (p ≡ pass → g ≢ slice_index generations pass)))
      → IsShelf (set generations pass (open_generation found)) (desk_of new less)
  shelf_dropped less ids keys other are = subst (λ (v : ScanView). IsShelf (set generations pass (open_generation found)) (desk_of v less)) (sym step) (record {
    shape = i.shape;
    scanners = i.scanners;
    number = i.number;
    passes = ids ∙ i.passes;
    keys = keys;
    kept = length-set generations pass (open_generation found) ∙ i.kept;
    entries = entries_by seat.table.shape seat.scanner (λ key p g. IsListed w key p g × (p ≡ pass → is_live found g ≡ true)) (IsListed less) (scanner_now (scanner_did seat (ScannerStep.Met pass found)))
        (λ key p g. (
          λ h. let was = (are key p g).0 h in (was.0, λ e. absurd (was.1 e ((i.one key p g was.0).0 ∙ ap (slice_index generations) e))),
          λ h. (are key p g).1 (h.0, λ e same. other (sym same ∙ live_at found g (h.1 e))),
        ))
        (entries_met seat.table.shape seat.scanner (IsListed w) (scanner_now seat) pass found i.entries);
    one = λ key p g h.
        let was = (are key p g).0 h in
        let one = i.one key p g was.0 in
        ⊎_elim
        (λ (e : p ≡ pass). absurd (was.1 e (one.0 ∙ ap (slice_index generations) e)))
        (λ (n : p ≢ pass). (one.0 ∙ sym (get_or-set_other generations pass p (open_generation found) 0 n), one.1))
        (cases_eq p pass);
  })

  -- what is left of the pass is of the open generation
  pub met_live : slice_index generations pass ≡ open_generation found → (key g : ℕ) → IsListed w key pass g → g ≡ open_generation found
  met_live same key g h = (i.one key pass g h).0 ∙ same

  pub dropped_live : (less : Watches) → ((k p g : ℕ) → IsListed less k p g ↔ (IsListed w k p g × (p ≡ pass → g ≢ slice_index generations pass)))
      → (key g : ℕ) → IsListed less key pass g → g ≡ open_generation found
  dropped_live less are key g h =
      let was = (are key pass g).0 h in
      absurd (was.1 refl (i.one key pass g was.0).0)

-- a scanner that goes on, and a shard with as many keys and ids
pub shelf_after : (generations kept : List ℕ) (seat new : ScanView) (w after : Watches) → IsShelf generations (desk_of seat w) → GoesOn seat new
    → after.ids ≡ w.ids → keys_of after ≡ keys_of w → length kept ≡ length generations
    → AreEntries seat.table.shape seat.scanner (IsListed after) (scanner_now new)
    → ((key p g : ℕ) → IsListed after key p g → (g ≡ slice_index kept p) × (1 ≤ g))
    → IsShelf kept (desk_of new after)
shelf_after generations kept seat new w after i went ids keys size entries one = record {
  shape = subst (λ (t : TableView). IsShape t.shape) (sym went.table) i.shape;
  scanners = ap (λ (t : TableView). t.shape.scanners) went.table ∙ i.scanners;
  number = subst (λ k. k < 16) (sym went.scanner) i.number;
  passes = ids ∙ i.passes ∙ sym (ap (λ (t : TableView). t.shape.passes) went.table);
  keys = keys ∙ i.keys;
  kept = size ∙ i.kept ∙ sym (ap (λ (t : TableView). t.shape.passes) went.table);
  entries = subst (λ (t : TableView). AreEntries t.shape new.scanner (IsListed after) (scanner_now new)) (sym went.table)
      (subst (λ k. AreEntries seat.table.shape k (IsListed after) (scanner_now new)) (sym went.scanner) entries);
  one = one;
}

-- an operation that the scanner has tried to win
pub shelf_tried : (generations : List ℕ) (seat new : ScanView) (w less : Watches) (key pass generation : ℕ) → IsShelf generations (desk_of seat w) → GoesOn seat new
    → less.ids ≡ w.ids → keys_of less ≡ keys_of w
    → ((i p g : ℕ) → IsListed less i p g ↔ (IsListed w i p g × (i ≡ key → p ≡ pass → g ≢ generation)))
    → (scanner_now new).listing ≡ without_entry (scanner_now seat) (gauge_of_key seat.scanner key) pass generation
    → IsShelf generations (desk_of new less)
shelf_tried generations seat new w less key pass generation i went ids keys are is =
    shelf_after generations generations seat new w less i went ids keys refl
    (entries_dropped seat.table.shape seat.scanner (IsListed w) (IsListed less) (scanner_now seat) (scanner_now new) key pass generation are is i.entries)
    (λ j p g h. i.one j p g ((are j p g).0 h).0)
