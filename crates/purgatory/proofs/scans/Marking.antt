-- An operation that is listed under a need's gauge.
use Rattle.std.proofs.Common.{⊎_elim, inl, ◌≡◌, ◌≢◌, ◌∙◌, ◌↔◌, ℕ, ◌+◌, ◌*◌, ◌<◌, ◌≤◌, List, Option, Some, cond, length, length-set, set, ap, subst, sym, arith}
use Rattle.std.specs.Prelude.{slice_index}
use Rattle.std.proofs.lemmas.Bool.{cases_eq, ne_eqb}
use Rattle.std.proofs.lemmas.List.{get_or-set_other, get_or-set_same}
use Rattle.room_core.specs.declared.shape.Shape.{Shape}
use Rattle.room_core.specs.Description.{gauge_of, marked_gauge, needs_of}
use Rattle.room_core.specs.Gauges.{IsGaugeOf, IsPass, IsScanner, clock_of}
use Rattle.room_core.specs.Meetings.{IsMet, MayMark, entry_for, generation_met, scanner_learns, scanner_marks, words_of}
use Rattle.room_core.specs.Put.{put}
use Rattle.room_core.specs.Readings.{read_only}
use Rattle.room_core.specs.State.{Scanner}
use Rattle.room_core.proofs.Laws.{put_else, put_here}
use Rattle.room_table.specs.declared.part.ScannerStep.{ScannerStep}
use Rattle.room_table.specs.Seats.{ScanView, scanner_did, scanner_now}
use Rattle.watch_lists.specs.Watches.{IsListed, Watches, keys_of}
use Rattle.purgatory.specs.scans.ShardKeeps.{gauge_of_key}
use Rattle.purgatory.specs.scans.Shelf.{IsShelf}
use Rattle.purgatory.proofs.scans.Entries.{entries_marked}
use Rattle.purgatory.proofs.scans.Tables.{some_here, some_more}

-- it has learned how many needs there are, and the gauge of one
module _ (s : Scanner) (at needs gauge : ℕ) where
  abbrev pub learned_need : Scanner
  learned_need = scanner_learns (scanner_learns s 2 needs) (3 + 3 * at) gauge

  pub needs_is : needs_of (words_of learned_need) ≡ needs
  needs_is =
      ap (λ (o : Option ℕ). read_only (λ i. o) 0) (put_else (put s.learned 2 (Some needs)) (3 + 3 * at) (Some gauge) 2 (λ e. absurd (omega (arith, e))))
      ∙ ap (λ (o : Option ℕ). read_only (λ i. o) 0) (put_here s.learned 2 (Some needs))

  pub gauge_is : gauge_of (words_of learned_need) at ≡ gauge
  gauge_is = ap (λ (o : Option ℕ). read_only (λ i. o) 0) (put_here (put s.learned 2 (Some needs)) (3 + 3 * at) (Some gauge))

  pub may_mark : (shape : Shape) (k pass : ℕ) → IsScanner shape k → IsPass shape pass → IsMet s.meeting pass → at < 64 → at < needs → IsGaugeOf shape k gauge → gauge ≢ clock_of shape
      → MayMark shape k learned_need pass at
  may_mark shape k pass scanner there met few within own no_clock = (
    scanner,
    there,
    met,
    inl (record {
      need = few;
      count = some_more (put s.learned 2 (Some needs)) (3 + 3 * at) gauge 2 (some_here s.learned 2 needs);
      within = subst (λ n. at < n) (sym needs_is) within;
      gauge = some_here (put s.learned 2 (Some needs)) (3 + 3 * at) gauge;
      own = subst (λ g. IsGaugeOf shape k g) (sym gauge_is) own;
      no_clock = subst (λ g. g ≢ clock_of shape) (sym gauge_is) no_clock;
    }),
  )

  marked_is : (shape : Shape) → at < 64 → marked_gauge shape (words_of learned_need) at ≡ gauge
  unfolding marked_gauge
  marked_is shape few = ap (λ b. cond b (clock_of shape) (gauge_of (words_of learned_need) at)) (ne_eqb at 64 (λ e. omega (arith, e, few))) ∙ gauge_is

  pub marks_listing : (shape : Shape) (pass : ℕ) → at < 64
      → (scanner_marks shape learned_need pass at).listing ≡ put s.listing gauge (put (s.listing gauge) pass (Some (entry_for learned_need at)))
  marks_listing shape pass few = ap (λ g. put s.listing g (put (s.listing g) pass (Some (entry_for learned_need at)))) (marked_is shape few)

-- the shard lists it too
pub shelf_marked : (generations : List ℕ) (seat new : ScanView) (w more : Watches) (pass generation at needs gauge key : ℕ)
    → IsShelf generations (record { seat = seat; watches = w })
    → new ≡ scanner_did (scanner_did (scanner_did seat (ScannerStep.Learned 2 needs)) (ScannerStep.Learned (3 + 3 * at) gauge)) (ScannerStep.Listed pass at)
    → at < 64 → pass < length generations → 1 ≤ generation → generation_met (scanner_now seat).meeting ≡ generation
    → gauge ≡ gauge_of_key seat.scanner key → IsGaugeOf seat.table.shape seat.scanner gauge
    → more.ids ≡ w.ids → keys_of more ≡ keys_of w
    → ((g : ℕ) → IsListed more key pass g ↔ (g ≡ generation))
    → ((i p g : ℕ) → (i ≡ key → p ≢ pass) → IsListed more i p g ↔ IsListed w i p g)
    → ((i g : ℕ) → IsListed w i pass g → g ≡ generation)
    → IsShelf (set generations pass generation) (record { seat = new; watches = more })
shelf_marked generations seat new w more pass generation at needs gauge key i step few there some met is own ids keys here others live =
    let shape = seat.table.shape in
    let k = seat.scanner in
    let s = scanner_now seat in
    let entry = entry_for (learned_need s at needs gauge) at in
    let gens = set generations pass generation in
    let same : slice_index gens pass ≡ generation = get_or-set_same generations pass generation 0 there in
    let mine : (j g : ℕ) → IsListed more j pass g → g ≡ generation = λ j g h.
    ⊎_elim
    (λ (e : j ≡ key). (here g).0 (subst (λ n. IsListed more n pass g) e h))
    (λ (n : j ≢ key). live j g ((others j pass g (λ e. absurd (n e))).0 h))
    (cases_eq j key) in
    subst (λ (v : ScanView). IsShelf gens (record { seat = v; watches = more })) (sym step) (record {
      shape = i.shape;
      scanners = i.scanners;
      number = i.number;
      passes = ids ∙ i.passes;
      keys = keys ∙ i.keys;
      kept = length-set generations pass generation ∙ i.kept;
      entries = entries_marked shape k (IsListed w) (IsListed more) s (scanner_marks shape (learned_need s at needs gauge) pass at) key pass entry
          (subst (λ g. IsGaugeOf shape k g) is own)
          (λ g. (λ h. (here g).0 h ∙ sym met, λ e. (here g).1 (e ∙ met)))
          others
          (subst (λ g. (scanner_marks shape (learned_need s at needs gauge) pass at).listing ≡ put s.listing g (put (s.listing g) pass (Some entry))) is (marks_listing s at needs gauge shape pass few))
          i.entries;
      one = λ j p g h.
          ⊎_elim
          (λ (e : p ≡ pass).
          let is_it = mine j g (subst (λ n. IsListed more j n g) e h) in
          (is_it ∙ sym same ∙ ap (slice_index gens) (sym e), subst (λ n. 1 ≤ n) (sym is_it) some))
          (λ (n : p ≢ pass).
          let one = i.one j p g ((others j p g (λ e. n)).0 h) in
          (one.0 ∙ sym (get_or-set_other generations pass p generation 0 n), one.1))
          (cases_eq p pass);
    })
