-- The clock's listing after a step.
use Rattle.std.proofs.Common.{⊎_elim, inl, inr, ◌≡◌, ◌≢◌, ◌∙◌, ◌==◌, ℕ, ◌<◌, ◌≤◌, true, false, List, [], Option, Some, None, get_or, length, length-set, max, option_map, set, ap, refl, subst, sym, arith}
use Rattle.std.specs.Prelude.{replicate, slice_index_or}
use Rattle.std.proofs.lemmas.Bool.{cases_eq, eqb-false, eqb-true, not-false, not-true}
use Rattle.std.proofs.lemmas.List.{get_or-set_other, get_or-set_same, length-replicate}
use Rattle.room_core.specs.declared.parts.Entry.{Entry}
use Rattle.room_core.specs.declared.parts.Session.{Session}
use Rattle.room_core.specs.Gauges.{IsShape, clock_of}
use Rattle.room_core.specs.Meetings.{generation_met, live_entry}
use Rattle.room_core.specs.Numbers.{clock_mark, clock_scanner}
use Rattle.room_core.specs.Put.{put}
use Rattle.room_core.specs.Start.{idle_scanner}
use Rattle.room_core.specs.State.{Scanner}
use Rattle.room_core.proofs.Laws.{at_put, put_else, put_here}
use Rattle.room_table.specs.declared.part.ScannerStep.{ScannerStep}
use Rattle.room_table.specs.Parts.{scanner_of}
use Rattle.room_table.specs.Seats.{ScanView, TableView, scanner_did, scanner_now}
use Rattle.timing_wheel.specs.declared.timer.Timer.{Timer}
use Rattle.timing_wheel.specs.Timers.{Timers, deadline_of, ids_of}
use Rattle.purgatory.specs.scans.Coming.{IsClockListing, IsSettled, WasMet, is_stale, entry_at}
use Rattle.purgatory.specs.scans.Desks.{ClockView}
use Rattle.purgatory.specs.scans.Going.{GoesOn}
use Rattle.purgatory.specs.scans.Scanned.{scan_begun}
use Rattle.purgatory.specs.scans.Shelf.{open_generation}
use Rattle.purgatory.proofs.scans.Deadlines.{marked_is}
use Rattle.purgatory.proofs.scans.Entries.{live_entry_some}
use Rattle.purgatory.proofs.scans.Goes.{goes_by, one_step, stays}
use Rattle.purgatory.proofs.scans.Sessions.{is_live_at, not_live}
use Rattle.purgatory.proofs.scans.Settling.{live_none, live_some, timed_nothing}
use Rattle.purgatory.proofs.scans.Timers.{none_there}

abbrev desk_of : ScanView → Timers → ClockView
desk_of seat timers = record { seat = seat; timers = timers }

-- every entry is numbered from 1 on
abbrev AreNumbered : List (Option Entry) → Type 0
AreNumbered kept = (pass : ℕ) (entry : Entry) → slice_index_or kept pass None ≡ Some entry → 1 ≤ entry.generation

none_some : (entry : Entry) → None ≡ Some entry → ⊥
none_some entry e = absurd (cc)

entry_same : (a b : Entry) → Some a ≡ Some b → a ≡ b
entry_same a b e = cc

numbered_set : (kept : List (Option Entry)) (pass : ℕ) (o : Option Entry) → pass < length kept → ((entry : Entry) → o ≡ Some entry → 1 ≤ entry.generation) → AreNumbered kept → AreNumbered (set kept pass o)
numbered_set kept pass o there one all q entry e =
    ⊎_elim
    (λ (same : q ≡ pass). one entry (sym (get_or-set_same kept pass o None there) ∙ subst (λ p. get_or (set kept pass o) p None ≡ Some entry) same e))
    (λ (n : q ≢ pass). all q entry (sym (get_or-set_other kept pass q o None n) ∙ e))
    (cases_eq q pass)

-- what is kept mirrors a row with a new entry
mirrors_set : (kept : List (Option Entry)) (row now : ℕ → Option Entry) (pass : ℕ) (o : Option Entry) → pass < length kept → now pass ≡ o → ((q : ℕ) → q ≢ pass → now q ≡ row q)
    → ((q : ℕ) → row q ≡ get_or kept q None) → (q : ℕ) → now q ≡ get_or (set kept pass o) q None
mirrors_set kept row now pass o there here other is q =
    ⊎_elim
    (λ (same : q ≡ pass). subst (λ p. now p ≡ get_or (set kept pass o) p None) (sym same) (here ∙ sym (get_or-set_same kept pass o None there)))
    (λ (n : q ≢ pass). other q n ∙ is q ∙ sym (get_or-set_other kept pass q o None n))
    (cases_eq q pass)

-- the scanner goes on
listing_after : (kept after : List (Option Entry)) (seat new : ScanView) (w timers : Timers) → IsClockListing kept (desk_of seat w) → GoesOn seat new
    → ids_of timers ≡ ids_of w → timers.moment ≡ (scanner_now new).began (clock_of seat.table.shape) → length after ≡ length kept
    → ((q : ℕ) → (scanner_now new).listing (clock_of seat.table.shape) q ≡ get_or after q None)
    → ((gauge pass : ℕ) (entry : Entry) → (scanner_now new).listing gauge pass ≡ Some entry → gauge ≡ clock_of seat.table.shape)
    → AreNumbered after → IsClockListing after (desk_of new timers)
listing_after kept after seat new w timers i went ids moment size each own numbered = record {
  shape = subst (λ (t : TableView). IsShape t.shape) (sym went.table) i.shape;
  scanners = ap (λ (t : TableView). t.shape.scanners) went.table ∙ i.scanners;
  number = went.scanner ∙ i.number;
  passes = ids ∙ i.passes ∙ sym (ap (λ (t : TableView). t.shape.passes) went.table);
  moment = moment ∙ sym (ap (λ (t : TableView). (scanner_now new).began (clock_of t.shape)) went.table);
  size = size ∙ i.size ∙ sym (ap (λ (t : TableView). t.shape.passes) went.table);
  each = λ q. ap (λ (t : TableView). (scanner_now new).listing (clock_of t.shape) q) went.table ∙ each q;
  own = λ gauge pass entry e. own gauge pass entry e ∙ sym (ap (λ (t : TableView). clock_of t.shape) went.table);
  numbered = numbered;
}

began_same : (seat new : ScanView) (w timers : Timers) → timers.moment ≡ w.moment → w.moment ≡ (scanner_now seat).began (clock_of seat.table.shape)
    → (scanner_now new).began ≡ (scanner_now seat).began → timers.moment ≡ (scanner_now new).began (clock_of seat.table.shape)
began_same seat new w timers moment was began = moment ∙ was ∙ sym (ap (λ (f : ℕ → ℕ). f (clock_of seat.table.shape)) began)

-- its timers alone change
pub listing_timers : (kept : List (Option Entry)) (seat : ScanView) (w timers : Timers) → IsClockListing kept (desk_of seat w) → timers.moment ≡ w.moment → ids_of timers ≡ ids_of w
    → IsClockListing kept (desk_of seat timers)
listing_timers kept seat w timers i moment ids =
    listing_after kept kept seat seat w timers i (stays seat) ids (moment ∙ i.moment) refl i.each i.own i.numbered

-- its listing stays
pub listing_same : (kept : List (Option Entry)) (seat new : ScanView) (w : Timers) → IsClockListing kept (desk_of seat w) → GoesOn seat new
    → (scanner_now new).began ≡ (scanner_now seat).began → (scanner_now new).listing ≡ (scanner_now seat).listing → IsClockListing kept (desk_of new w)
listing_same kept seat new w i went began same =
    listing_after kept kept seat new w w i went refl (began_same seat new w w refl i.moment began) refl
    (λ q. ap (λ (l : ℕ → ℕ → Option Entry). l (clock_of seat.table.shape) q) same ∙ i.each q)
    (λ gauge pass entry e. i.own gauge pass entry (ap (λ (l : ℕ → ℕ → Option Entry). l gauge pass) (sym same) ∙ e))
    i.numbered

-- one row of it is another
row_own : (listing : ℕ → ℕ → Option Entry) (clock : ℕ) (row : ℕ → Option Entry) → ((gauge pass : ℕ) (entry : Entry) → listing gauge pass ≡ Some entry → gauge ≡ clock)
    → (gauge pass : ℕ) (entry : Entry) → put listing clock row gauge pass ≡ Some entry → gauge ≡ clock
row_own listing clock row own gauge pass entry =
    at_put listing clock row (λ g (r : ℕ → Option Entry). r pass ≡ Some entry → g ≡ clock) (λ e. refl) (λ g n e. own g pass entry e) gauge

pub listing_put : (kept : List (Option Entry)) (seat new : ScanView) (w timers : Timers) (pass : ℕ) (o : Option Entry) → IsClockListing kept (desk_of seat w) → GoesOn seat new
    → timers.moment ≡ w.moment → ids_of timers ≡ ids_of w → pass < length kept → (scanner_now new).began ≡ (scanner_now seat).began
    → (scanner_now new).listing ≡ put (scanner_now seat).listing (clock_of seat.table.shape) (put ((scanner_now seat).listing (clock_of seat.table.shape)) pass o)
    → ((entry : Entry) → o ≡ Some entry → 1 ≤ entry.generation)
    → IsClockListing (set kept pass o) (desk_of new timers)
listing_put kept seat new w timers pass o i went moment ids there began is one =
    let clock = clock_of seat.table.shape in
    let row = (scanner_now seat).listing clock in
    let now : (q : ℕ) → (scanner_now new).listing clock q ≡ put row pass o q = λ q.
    ap (λ (l : ℕ → ℕ → Option Entry). l clock q) is ∙ ap (λ (r : ℕ → Option Entry). r q) (put_here (scanner_now seat).listing clock (put row pass o)) in
    listing_after kept (set kept pass o) seat new w timers i went ids (began_same seat new w timers moment i.moment began) (length-set kept pass o)
    (mirrors_set kept row ((scanner_now new).listing clock) pass o there (now pass ∙ put_here row pass o) (λ q n. now q ∙ put_else row pass o q n) i.each)
    (λ gauge p entry e. row_own (scanner_now seat).listing clock (put row pass o) i.own gauge p entry (ap (λ (l : ℕ → ℕ → Option Entry). l gauge p) (sym is) ∙ e))
    (numbered_set kept pass o there one i.numbered)

-- a pass is met

live_stays : (w : Session) (o : Option Entry) → ((entry : Entry) → o ≡ Some entry → 1 ≤ entry.generation) → is_stale o (open_generation w) ≡ false → live_entry w o ≡ o
unfolding live_entry
live_stays w None some e = refl
live_stays w (Some entry) some e =
    live_some w entry (is_live_at w entry.generation (some entry refl) (eqb-true entry.generation (open_generation w) (not-false (entry.generation == open_generation w) e)))

live_goes : (w : Session) (o : Option Entry) → is_stale o (open_generation w) ≡ true → live_entry w o ≡ None
unfolding live_entry
live_goes w None e = refl
live_goes w (Some entry) e =
    live_none w entry (not_live w entry.generation (λ same. eqb-false entry.generation (open_generation w) (not-true (entry.generation == open_generation w) e) (sym same)))

module _ (kept : List (Option Entry)) (seat new : ScanView) (w : Timers) (i : IsClockListing kept (desk_of seat w)) (pass : ℕ) (found : Session)
    (step : new ≡ scanner_did seat (ScannerStep.Met pass found)) where
  abbrev clock : ℕ
  clock = clock_of seat.table.shape

  abbrev row : ℕ → Option Entry
  row = (scanner_now seat).listing clock

  went : GoesOn seat new
  went = one_step seat new (ScannerStep.Met pass found) step

  began : (scanner_now new).began ≡ (scanner_now seat).began
  began = ap (λ (v : ScanView). (scanner_now v).began) step

  row_now : (q : ℕ) → (scanner_now new).listing clock q ≡ put row pass (live_entry found (row pass)) q
  row_now q = ap (λ (v : ScanView). (scanner_now v).listing clock q) step

  own_now : (gauge p : ℕ) (entry : Entry) → (scanner_now new).listing gauge p ≡ Some entry → gauge ≡ clock
  own_now gauge p entry e =
      at_put ((scanner_now seat).listing gauge) pass (live_entry found ((scanner_now seat).listing gauge pass)) (λ q (o : Option Entry). o ≡ Some entry → gauge ≡ clock)
      (λ h. i.own gauge pass entry (live_entry_some found ((scanner_now seat).listing gauge pass) entry h))
      (λ q n h. i.own gauge q entry h)
      p
      (ap (λ (v : ScanView). (scanner_now v).listing gauge p) (sym step) ∙ e)

  -- its entry, if it has one, is of the open generation
  module _ (live : is_stale (get_or kept pass None) (open_generation found) ≡ false) where
    entry_stays : live_entry found (row pass) ≡ get_or kept pass None
    entry_stays = ap (live_entry found) (i.each pass) ∙ live_stays found (get_or kept pass None) (i.numbered pass) live

    pub listing_met : IsClockListing kept (desk_of new w)
    listing_met =
        listing_after kept kept seat new w w i went refl (began_same seat new w w refl i.moment began) refl
        (λ q. row_now q ∙ at_put row pass (live_entry found (row pass)) (λ p (o : Option Entry). o ≡ get_or kept p None) entry_stays (λ p n. i.each p) q)
        own_now i.numbered

    pub met_stays : WasMet pass found (desk_of seat w) (desk_of new w)
    met_stays = record {
      step = step;
      timers = refl;
      entry = inl (ap (λ (v : ScanView). (scanner_now v).listing (clock_of v.table.shape) pass) step ∙ put_here row pass (live_entry found (row pass)) ∙ entry_stays ∙ sym (i.each pass));
    }

  -- it isn't: it goes
  module _ (stale : is_stale (get_or kept pass None) (open_generation found) ≡ true) (there : pass < length kept) where
    entry_goes : live_entry found (row pass) ≡ None
    entry_goes = ap (live_entry found) (i.each pass) ∙ live_goes found (get_or kept pass None) stale

    pub listing_dropped : IsClockListing (set kept pass None) (desk_of new w)
    listing_dropped =
        listing_after kept (set kept pass None) seat new w w i went refl (began_same seat new w w refl i.moment began) (length-set kept pass None)
        (mirrors_set kept row ((scanner_now new).listing clock) pass None there
        (row_now pass ∙ put_here row pass (live_entry found (row pass)) ∙ entry_goes)
        (λ q n. row_now q ∙ put_else row pass (live_entry found (row pass)) q n)
        i.each)
        own_now
        (numbered_set kept pass None there (λ entry e. absurd (none_some entry e)) i.numbered)

    pub met_dropped : WasMet pass found (desk_of seat w) (desk_of new w)
    met_dropped = record {
      step = step;
      timers = refl;
      entry = inr (ap (λ (v : ScanView). (scanner_now v).listing (clock_of v.table.shape) pass) step ∙ put_here row pass (live_entry found (row pass)) ∙ entry_goes);
    }

-- a desk that is new

module _ (seat : ScanView) (timers : Timers) (n : ℕ) (fresh : seat.steps ≡ []) (none : timers ≡ record { moment = 0; slots = replicate n None }) where
  idle : scanner_now seat ≡ idle_scanner
  idle = ap (λ steps. scanner_of seat.table.shape seat.scanner steps) fresh

  pub listing_fresh : IsShape seat.table.shape → seat.table.shape.scanners ≡ 17 → seat.scanner ≡ clock_scanner → n ≡ seat.table.shape.passes → (kept : List (Option Entry)) → kept ≡ replicate n None
      → IsClockListing kept (desk_of seat timers)
  listing_fresh shape scanners number size kept all = record {
    shape = shape;
    scanners = scanners;
    number = number;
    passes = ap ids_of none ∙ length-replicate n None ∙ size;
    moment = ap (λ (t : Timers). t.moment) none ∙ sym (ap (λ (s : Scanner). s.began (clock_of seat.table.shape)) idle);
    size = ap length all ∙ length-replicate n None ∙ size;
    each = λ pass. ap (λ (s : Scanner). s.listing (clock_of seat.table.shape) pass) idle ∙ sym (ap (λ (xs : List (Option Entry)). get_or xs pass None) all ∙ none_there n pass);
    own = λ gauge pass entry e. absurd (none_some entry (sym (ap (λ (s : Scanner). s.listing gauge pass) idle) ∙ e));
    numbered = λ pass entry e. absurd (none_some entry (sym (ap (λ (xs : List (Option Entry)). get_or xs pass None) all ∙ none_there n pass) ∙ e));
  }

  pub settled_fresh : (pass : ℕ) → IsSettled pass (desk_of seat timers)
  settled_fresh pass = record {
    no_duty = ap (λ (s : Scanner). s.duties pass) idle;
    timed = timed_nothing timers.moment (entry_at (desk_of seat timers) pass) (deadline_of timers pass) (ap (λ (s : Scanner). s.listing (clock_of seat.table.shape) pass) idle)
        (ap (λ (t : Timers). deadline_of t pass) none ∙ ap (option_map (λ (t : Timer). t.deadline)) (none_there n pass));
  }

-- a scan that begins
pub listing_begun : (kept : List (Option Entry)) (seat new : ScanView) (w timers : Timers) (heard : ℕ) → IsClockListing kept (desk_of seat w) → w.moment ≤ heard
    → new ≡ scan_begun seat (clock_of seat.table.shape) heard → timers.moment ≡ heard → ids_of timers ≡ ids_of w → IsClockListing kept (desk_of new timers)
listing_begun kept seat new w timers heard i later step moment ids =
    let clock = clock_of seat.table.shape in
    let s = scanner_now seat in
    let was = i.moment in
    let most : max (s.began clock) heard ≡ heard = omega (arith, was, later) in
    subst (λ (v : ScanView). IsClockListing kept (desk_of v timers)) (sym step)
    (listing_after kept kept seat (scan_begun seat clock heard) w timers i
    (goes_by seat (scanner_did seat (ScannerStep.Heard clock heard)) (scan_begun seat clock heard) (ScannerStep.Began clock (s.began clock))
    (one_step seat (scanner_did seat (ScannerStep.Heard clock heard)) (ScannerStep.Heard clock heard) refl) refl)
    ids (moment ∙ sym (put_here s.began clock (max (s.began clock) heard) ∙ most)) refl i.each i.own i.numbered)

-- an operation that is listed under its deadline

pub listing_marked : (kept : List (Option Entry)) (seat new : ScanView) (w timers : Timers) (pass generation deadline : ℕ) → IsClockListing kept (desk_of seat w)
    → new ≡ scanner_did (scanner_did seat (ScannerStep.Learned 1 deadline)) (ScannerStep.Listed pass clock_mark)
    → timers.moment ≡ w.moment → ids_of timers ≡ ids_of w → pass < length kept → 1 ≤ generation → generation_met (scanner_now seat).meeting ≡ generation
    → IsClockListing (set kept pass (Some (record { generation = generation; deadline = deadline }))) (desk_of new timers)
listing_marked kept seat new w timers pass generation deadline i step moment ids there some met =
    let entry : Entry = record { generation = generation; deadline = deadline } in
    listing_put kept seat new w timers pass (Some entry) i
    (goes_by seat (scanner_did seat (ScannerStep.Learned 1 deadline)) new (ScannerStep.Listed pass clock_mark)
    (one_step seat (scanner_did seat (ScannerStep.Learned 1 deadline)) (ScannerStep.Learned 1 deadline) refl) step)
    moment ids there (ap (λ (v : ScanView). (scanner_now v).began) step)
    (ap (λ (v : ScanView). (scanner_now v).listing) step
    ∙ marked_is (scanner_now seat) seat.table.shape pass deadline
    ∙ ap (λ g. put (scanner_now seat).listing (clock_of seat.table.shape) (put ((scanner_now seat).listing (clock_of seat.table.shape)) pass (Some (let e : Entry = record { generation = g; deadline = deadline } in e)))) met)
    (λ other e. subst (λ (x : Entry). 1 ≤ x.generation) (entry_same entry other e) some)

-- an operation that the scanner has tried to win
pub listing_tried : (kept : List (Option Entry)) (seat new : ScanView) (w : Timers) (pass : ℕ) → IsClockListing kept (desk_of seat w) → GoesOn seat new → pass < length kept
    → (scanner_now new).began ≡ (scanner_now seat).began
    → (scanner_now new).listing ≡ put (scanner_now seat).listing (clock_of seat.table.shape) (put ((scanner_now seat).listing (clock_of seat.table.shape)) pass None)
    → IsClockListing (set kept pass None) (desk_of new w)
listing_tried kept seat new w pass i went there began is =
    listing_put kept seat new w w pass None i went refl refl there began is (λ e h. absurd (none_some e h))
