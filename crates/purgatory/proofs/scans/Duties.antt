-- The duties of a scan, one after another.
use Rattle.std.proofs.Common.{⊎_elim, ◌≡◌, ◌≢◌, ◌∙◌, ℕ, ◌+◌, ◌/◌, ◌<◌, ◌≤◌, List, Option, Some, None, Contains, cond, get_or, length, ap, refl, subst, sym, arith}
use Rattle.std.specs.Prelude.{max, not, ◌||◌, ◌&&◌, nat_le, nat_lt}
use Rattle.std.specs.List.{slice_get}
use Rattle.std.proofs.lemmas.Bool.{cases_eq, ne_eqb}
use Rattle.std.proofs.lemmas.List.Elements.{All-contains}
use Rattle.std.proofs.lemmas.Option.{get_or_from_slice_get, slice_get-get_or, slice_get_within}
use Rattle.room_core.specs.declared.parts.Duty.{Duty}
use Rattle.room_core.specs.declared.parts.Entry.{Entry}
use Rattle.room_core.specs.declared.shape.Shape.{Shape}
use Rattle.room_core.specs.Gauges.{IsGaugeOf, clock_of}
use Rattle.room_core.specs.Numbers.{clock_scanner}
use Rattle.room_core.specs.Put.{put}
use Rattle.room_core.specs.Scans.{duty_of}
use Rattle.room_core.proofs.Laws.{put_else, put_here}
use Rattle.room_core.specs.Sound.{IsEntry}
use Rattle.room_core.specs.State.{Scanner}
use Rattle.room_table.specs.Seats.{ScanView, scanner_now}
use Rattle.watch_lists.specs.declared.watch.Watch.{Watch}
use Rattle.watch_lists.specs.Row.{IsRow}
use Rattle.watch_lists.specs.Watches.{IsListed, Watches, row_of}
use Rattle.purgatory.specs.scans.Going.{GoesOn}
use Rattle.purgatory.specs.scans.Scanned.{HasScanned, scan_begun}
use Rattle.purgatory.specs.scans.ShardKeeps.{AreEntries, gauge_of_key}
use Rattle.purgatory.specs.scans.Shelf.{AreAllBelow, AreDutiesBelow, IsFreed, KeepsLower}
use Rattle.purgatory.proofs.scans.Gauges.{key_is, not_clock}
use Rattle.purgatory.proofs.scans.Rows.{earlier}
use Rattle.purgatory.proofs.scans.Tables.{some_same}

-- an entry of a gauge that isn't the clock is a duty of its scan

duty_is : (shape : Shape) (gauge begun heard : ℕ) (entry : Entry) → gauge ≢ clock_of shape
    → duty_of shape gauge begun heard (Some entry) ≡ Some (record { gauge = gauge; generation = entry.generation })
unfolding duty_of
duty_is shape gauge begun heard entry n =
    ap (λ b. cond (not b || (nat_lt begun entry.deadline && nat_le entry.deadline heard)) (Some (let d : Duty = record { gauge = gauge; generation = entry.generation } in d)) None) (ne_eqb gauge (clock_of shape) n)

duty_some : (shape : Shape) (gauge begun heard : ℕ) (o : Option Entry) (d : Duty) → gauge ≢ clock_of shape → duty_of shape gauge begun heard o ≡ Some d → IsEntry o d.generation
unfolding duty_of
duty_some shape gauge begun heard None d n e = absurd (cc)
duty_some shape gauge begun heard (Some entry) d n e =
    ap (λ (x : Duty). x.generation) (some_same _ d (sym (duty_is shape gauge begun heard entry n) ∙ e))

entry_some : (o : Option Entry) (generation : ℕ) → IsEntry o generation → (entry : Entry) × (o ≡ Some entry) × (entry.generation ≡ generation)
entry_some None generation h = absurd h
entry_some (Some entry) generation h = (entry, refl, h)

-- what stands in a row

in_row : (row : List Watch) (place : ℕ) (w : Watch) → slice_get row place ≡ Some w → Contains row w
in_row row place w at = (place, slice_get_within row place w at, get_or_from_slice_get row place w w at)

keyed : (key ids : ℕ) (row : List Watch) → IsRow key ids row → (place : ℕ) (w : Watch) → slice_get row place ≡ Some w → w.key ≡ key
keyed key ids row r place w at = All-contains (λ (x : Watch). x.key ≡ key) row w r.keyed (in_row row place w at)

pub row_pass : (key ids : ℕ) (row : List Watch) → IsRow key ids row → (place : ℕ) (w : Watch) → slice_get row place ≡ Some w → (w.key ≡ key) × (w.id < ids) × (1 ≤ w.generation)
row_pass key ids row r place w at = (
  keyed key ids row r place w at,
  All-contains (λ (x : Watch). x.id < ids) row w r.below (in_row row place w at),
  All-contains (λ (x : Watch). 1 ≤ x.generation) row w r.numbered (in_row row place w at),
)

place_there : (row : List Watch) (place other : ℕ) (w : Watch) → slice_get row other ≡ Some w → place < other → (v : Watch) × (slice_get row place ≡ Some v)
place_there row place other w at less = (get_or row place w, slice_get-get_or row place w (let l = slice_get_within row other w at in omega (arith, l, less)))

-- the watchers of a key, counted
pub all_below : (w : Watches) (key count : ℕ) → count ≡ length (row_of w key) → AreAllBelow key count w
all_below w key count is place watch at =
    let there : place < length (row_of w key) = slice_get_within (row_of w key) place watch at in
    omega (arith, there, is)

-- all watchers of the gauge are duties as a scan begins
pub begins_duties : (seat new : ScanView) (w : Watches) (gauge heard count : ℕ) → seat.table.shape.scanners ≡ 17 → seat.scanner < clock_scanner → IsGaugeOf seat.table.shape seat.scanner gauge
    → AreEntries seat.table.shape seat.scanner (IsListed w) (scanner_now seat) → IsRow (gauge / 16) w.ids (row_of w (gauge / 16)) → AreAllBelow (gauge / 16) count w
    → new ≡ scan_begun seat gauge heard → AreDutiesBelow gauge (gauge / 16) count w (scanner_now new)
begins_duties seat new w gauge heard count all few own entries r below step =
    let shape = seat.table.shape in
    let k = seat.scanner in
    let s = scanner_now seat in
    let key = gauge / 16 in
    let row = row_of w key in
    let n = not_clock shape k gauge few own in
    let is : gauge ≡ gauge_of_key k key = key_is shape k gauge all few own in
    subst (λ (v : ScanView). AreDutiesBelow gauge key count w (scanner_now v)) (sym step) (record {
      each = λ place watch less at.
          let same : watch ≡ record { key = key; id = watch.id; generation = watch.generation } = λ j. record { key = keyed key w.ids row r place watch at j; id = watch.id; generation = watch.generation } in
          let listed : IsListed w key watch.id watch.generation = subst (λ (x : Watch). Contains row x) same (in_row row place watch at) in
          let entry = entry_some (s.listing gauge watch.id) watch.generation (subst (λ g. IsEntry (s.listing g watch.id) watch.generation) (sym is) ((entries.each key watch.id watch.generation).0 listed)) in
          ap (duty_of shape gauge (s.began gauge) heard) entry.1 ∙ duty_is shape gauge (s.began gauge) heard entry.0 n ∙ ap (λ g. Some (let d : Duty = record { gauge = gauge; generation = g } in d)) entry.2;
      only = λ pass duty e.
          let there = duty_some shape gauge (s.began gauge) heard (s.listing gauge pass) duty n e in
          let listed : IsListed w key pass duty.generation = (entries.each key pass duty.generation).1 (subst (λ g. IsEntry (s.listing g pass) duty.generation) is there) in
          let watch : Watch = record { key = key; id = pass; generation = duty.generation } in
          let at : slice_get row listed.0 ≡ Some watch = slice_get-get_or row listed.0 watch listed.1 ∙ ap Some listed.2 in
          (listed.0, below listed.0 watch at, at);
    })

none_some : (duty : Duty) → None ≡ Some duty → ⊥
none_some duty e = absurd (cc)

no_watch : (watch : Watch) → None ≡ Some watch → ⊥
no_watch watch e = absurd (cc)

none_there : (o : Option Duty) → ((duty : Duty) → o ≡ Some duty → ⊥) → o ≡ None
none_there None n = refl
none_there (Some duty) n = absurd (n duty refl)

-- the last of the duties was checked
pub duty_less : (gauge key ids left : ℕ) (w less : Watches) (s t : Scanner) (watch : Watch) → IsRow key ids (row_of w key) → slice_get (row_of w key) left ≡ Some watch
    → AreDutiesBelow gauge key (left + 1) w s → IsFreed watch.id s t → KeepsLower watch.id w less → AreDutiesBelow gauge key left less t
duty_less gauge key ids left w less s t watch r last d freed lower =
    let row = row_of w key in
    record {
      each = λ place v l at.
          let there = place_there row place left watch last l in
          let before = earlier key ids row r place left there.0 watch l there.1 last in
          let is : there.0 ≡ v = some_same there.0 v (sym (lower key place there.0 there.1 before) ∙ at) in
          let other : there.0.id ≢ watch.id = λ e. omega (arith, e, before) in
          subst (λ (x : Watch). t.duties x.id ≡ Some (record { gauge = gauge; generation = x.generation })) is
          (freed.others there.0.id other ∙ d.each place there.0 (omega (arith, l)) there.1);
      only = λ pass duty e.
          ⊎_elim
          (λ (same : pass ≡ watch.id). absurd (none_some duty (sym (ap t.duties same ∙ freed.gone) ∙ e)))
          (λ (n : pass ≢ watch.id).
          let was = d.only pass duty (sym (freed.others pass n) ∙ e) in
          let low = was.1 in
          let apart : was.0 ≢ left = λ same. n (ap (λ (x : Watch). x.id) (some_same _ watch (sym was.2 ∙ ap (slice_get row) same ∙ last))) in
          let first : was.0 < left = omega (arith, low, apart) in
          let before = earlier key ids row r was.0 left _ watch first was.2 last in
          (was.0, first, lower key was.0 _ was.2 before))
          (cases_eq pass watch.id);
    }

-- there was none at the last place
pub duty_none : (gauge key left : ℕ) (w : Watches) (s : Scanner) → slice_get (row_of w key) left ≡ None → AreDutiesBelow gauge key (left + 1) w s → AreDutiesBelow gauge key left w s
duty_none gauge key left w s none d = record {
  each = λ place v l at. d.each place v (omega (arith, l)) at;
  only = λ pass duty e.
      let was = d.only pass duty e in
      let low = was.1 in
      let apart : was.0 ≢ left = λ same. no_watch _ (sym none ∙ ap (slice_get (row_of w key)) (sym same) ∙ was.2) in
      (was.0, omega (arith, low, apart), was.2);
}

pub no_duties : (gauge key : ℕ) (w : Watches) (s : Scanner) → AreDutiesBelow gauge key 0 w s → (pass : ℕ) → s.duties pass ≡ None
no_duties gauge key w s d pass = none_there (s.duties pass) (λ duty e. let was = d.only pass duty e in let low = was.1 in omega (arith, low))

greater : (a b : ℕ) → a ≤ b → max a b ≡ b
greater a b less = omega (arith, less)

-- the scan, as its scanner's steps
pub has_scanned : (gauge heard : ℕ) (old mid new : ScanView) → mid ≡ scan_begun old gauge heard → (scanner_now old).began gauge ≤ heard → GoesOn mid new
    → (scanner_now new).began ≡ (scanner_now mid).began → HasScanned gauge old new
has_scanned gauge heard old mid new step least went same =
    let s = scanner_now old in
    let began : (scanner_now mid).began ≡ put s.began gauge (max (s.began gauge) heard) = ap (λ (v : ScanView). (scanner_now v).began) step in
    record {
      heard = heard;
      went = subst (λ (v : ScanView). GoesOn v new) step went;
      least = least;
      began = ap (λ (f : ℕ → ℕ). f gauge) (same ∙ began) ∙ put_here s.began gauge (max (s.began gauge) heard) ∙ greater (s.began gauge) heard least;
      others = λ other n. ap (λ (f : ℕ → ℕ). f other) (same ∙ began) ∙ put_else s.began gauge (max (s.began gauge) heard) other n;
    }
