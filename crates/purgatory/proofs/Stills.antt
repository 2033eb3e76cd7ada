-- A room whose scanners' seats are back, as its passes' come back too.
use Rattle.std.proofs.Common.{⊎_elim, ◌≡◌, ◌≢◌, ◌∙◌, ℕ, ◌+◌, ◌<◌, ◌≤◌, List, [], ◌∷◌, ◌++◌, cond, drop, eqb, get_or, length, set, take, ap, refl, subst, sym, arith, append_assoc}
use Rattle.std.specs.Prelude.{All, slice_index}
use Rattle.std.proofs.lemmas.Bool.{cases_eq, ne_eqb}
use Rattle.std.proofs.lemmas.List.{append-nil, drop_all, get_or-map, get_or-set_other, get_or-set_same, length-map, length-set, map_push, take_all}
use Rattle.std.proofs.lemmas.List.Elements.{All-head, All-map, All-tail}
use Rattle.std.proofs.lemmas.List.Sums.{sum_by-cons}
use Rattle.room_core.specs.Gauges.{IsShape}
use Rattle.room_table.specs.Closing.{ClosingView}
use Rattle.room_table.specs.Seats.{CallerView, ScanView, TableView, caller_now}
use Rattle.purgatory.specs.declared.holding.Held.{Held}
use Rattle.purgatory.specs.Ends.{IsScannerSeat, IsSettled, exchanges_of, seats_of, taken_of, won_by_passes}
use Rattle.purgatory.specs.Going.{OwesNothing}
use Rattle.purgatory.specs.Holding.{AreHeld, WereHeld, with_seats}
use Rattle.purgatory.specs.Making.{AreFrom}
use Rattle.purgatory.specs.Noted.{AreNoted, IsNoted}
use Rattle.purgatory.specs.Rooms.{IsRoom, PassView, RoomView, winners}
use Rattle.purgatory.specs.Still.{IsKept, IsReadyToKeep, IsSettledSeat}

-- a list that was written through a slice of it
abbrev pub written_back : List ℕ → List ℕ → ℕ → ℕ → List ℕ
written_back xs slice at n = take (length xs) (set slice at n ++ drop (length (set slice at n)) xs)

pub written : (xs slice : List ℕ) (at n : ℕ) → slice ≡ xs → written_back xs slice at n ≡ set xs at n
written xs slice at n e =
    let size : length (set slice at n) ≡ length xs = length-set slice at n ∙ ap (λ (l : List ℕ). length l) e in
    ap (λ l. take (length xs) (set slice at n ++ l)) (drop_all (length (set slice at n)) xs (omega (arith, size)))
    ∙ ap (take (length xs)) (append-nil (set slice at n))
    ∙ take_all (length xs) (set slice at n) (omega (arith, size))
    ∙ ap (λ l. set l at n) e

-- what one pass more has won is noted
pub noted_more : (numbers : List ℕ) (seat : CallerView) (seats : List CallerView) (n : ℕ) → n ≡ length (caller_now seat).wins → 17 + seat.pass < length numbers → AreNoted numbers seats
    → AreNoted (set numbers (17 + seat.pass) n) (seat ∷ seats)
noted_more numbers seat seats n is room h f all pass some =
    let P : CallerView → Type 0 = λ x. length (caller_now x).wins ≡ f x.pass in
    ⊎_elim
    (λ (here : pass ≡ seat.pass).
    ap (λ p. get_or (set numbers (17 + seat.pass) n) (17 + p) 0) here ∙ get_or-set_same numbers (17 + seat.pass) n 0 room ∙ is ∙ All-head P seat seats all ∙ sym (ap f here))
    (λ (other : pass ≢ seat.pass).
    let apart : 17 + pass ≢ 17 + seat.pass = λ e. other (omega (arith, e)) in
    let zero : ℕ = 0 in
    let none : cond (eqb seat.pass pass) 1 0 ≡ zero = ap (λ b. cond b 1 0) (ne_eqb seat.pass pass (λ e. other (sym e))) in
    let count = sum_by-cons (λ (x : CallerView). cond (eqb x.pass pass) 1 0) seat seats in
    get_or-set_other numbers (17 + seat.pass) (17 + pass) n 0 apart ∙ h f (All-tail P seat seats all) pass (omega (arith, some, none, count)))
    (cases_eq pass seat.pass)

-- one pass less is left, and its seat is back
pub callers_step : (passes left : List PassView) (pass : PassView) (back all : List CallerView) (seat : CallerView) → passes ≡ left ++ pass ∷ [] → seat ≡ pass.seat → seats_of passes ++ back ≡ all
    → seats_of left ++ (seat ∷ back) ≡ all
callers_step passes left pass back all seat e is h =
    let f : PassView → CallerView = λ p. p.seat in
    ap (λ x. seats_of left ++ (x ∷ back)) is ∙ sym (append_assoc (seats_of left) (pass.seat ∷ []) back)
    ∙ ap (λ l. l ++ back) (sym (map_push f left pass) ∙ sym (ap seats_of e)) ∙ h

-- scanners are noted as before where no number of theirs is written
pub noted_low : (old new : List ℕ) (first : ℕ) (seats : List ScanView) → first + length seats ≤ 17 → ((k : ℕ) → k < 17 → slice_index new k ≡ slice_index old k) → AreFrom (IsNoted old) first seats → AreFrom (IsNoted new) first seats
noted_low old new first [] few low h = tt
noted_low old new first (seat ∷ seats) few low h = (low first (omega (arith, few)) ∙ h.0, noted_low old new (first + 1) seats (omega (arith, few)) low h.1)

-- all are back
pub all_kept : (before closing : ClosingView) (passes : List PassView) (numbers later : List ℕ) → IsReadyToKeep before passes numbers → closing.table ≡ before.table → length closing.sources ≡ 0
    → closing.scanners ≡ before.scanners → closing.callers ≡ seats_of passes → length later ≡ length numbers → All IsSettledSeat closing.callers → AreNoted later closing.callers
    → ((k : ℕ) → k < 17 → slice_index later k ≡ slice_index numbers k) → IsKept closing later
all_kept before closing passes numbers later b table sources scanners callers size settled noted low =
    let f : PassView → CallerView = λ p. p.seat in
    let held = b.held.all in
    record {
      shape = subst (λ (t : TableView). IsShape t.shape) (sym table) b.shape;
      all_scanners = ap (λ (t : TableView). t.shape.scanners) table ∙ b.all_scanners;
      size = size ∙ b.size ∙ ap (λ (t : TableView). 17 + t.shape.passes) (sym table);
      sources = sources;
      callers = ap (λ (l : List CallerView). length l) callers ∙ length-map passes f ∙ b.count ∙ ap (λ (t : TableView). t.shape.passes) (sym table);
      settled = settled;
      passes_noted = noted;
      scanners = ap (λ (l : List ScanView). length l) scanners ∙ (omega (arith, held));
      each = subst (λ (t : TableView). AreFrom (IsScannerSeat t) 0 closing.scanners) (sym table) (subst (AreFrom (IsScannerSeat before.table) 0) (sym scanners) b.held.each);
      noted = noted_low numbers later 0 closing.scanners
          (omega (arith, ap (λ (l : List ScanView). length l) scanners, held)) low (subst (AreFrom (IsNoted numbers) 0) (sym scanners) b.held.noted);
      taken = subst (λ (l : List ScanView). exchanges_of l closing.callers ≤ taken_of closing.callers) (sym scanners)
          (subst (λ (l : List CallerView). exchanges_of before.scanners l ≤ taken_of l) (sym callers) b.taken);
    }

-- what holds of the seat of every pass
of_seats : (Q : CallerView → Type 0) (passes : List PassView) → All Q (seats_of passes) → All (λ (pass : PassView). Q pass.seat) passes
of_seats Q passes all i d less =
    let f : PassView → CallerView = λ p. p.seat in
    let size = length-map passes f in
    subst Q (get_or-map f passes i d d.seat less) (all i d.seat (omega (arith, less, size)))

module _ (room : RoomView) (passes later : List PassView) (closing : ClosingView) (numbers : List ℕ) (won taken : ℕ) (i : IsRoom room.table room.locks) (size : length numbers ≡ winners room.table)
    (all : length passes ≡ room.table.shape.passes) (settled : All (IsSettled room) passes) (seats : seats_of later ≡ seats_of passes) (h : WereHeld room.table 0 won taken numbers (Held.Still closing))
    (won_is : won ≡ won_by_passes (seats_of passes)) (taken_is : taken ≡ taken_of (seats_of passes)) where
  abbrev seat_in : PassView → CallerView
  seat_in pass = pass.seat

  table : closing.table ≡ room.table
  table = ap (λ (x : ClosingView). x.table) h.ended.0

  scanners : closing.scanners ≡ h.seats
  scanners = ap (λ (x : ClosingView). x.scanners) h.ended.0

  abbrev IsMine : CallerView → Type 0
  IsMine seat = (seat.table ≡ closing.table) × OwesNothing (caller_now seat)

  mine : All IsMine (seats_of passes)
  mine = All-map IsMine seat_in passes (λ k d less. (let one = settled k d less in (one.made.table ∙ sym table, one.paid)))

  all_taken : exchanges_of closing.scanners (seats_of later) ≤ taken_of (seats_of later)
  all_taken =
      let less = h.ended.1 in
      subst (λ (l : List CallerView). exchanges_of closing.scanners l ≤ taken_of l) (sym seats)
      (subst (λ (l : List ScanView). exchanges_of l (seats_of passes) ≤ taken_of (seats_of passes)) (sym scanners) (omega (arith, less, won_is, taken_is)))

  -- the scanners' seats are back, and the passes' may come
  pub ready_so : IsReadyToKeep closing later numbers
  ready_so = record {
    shape = subst (λ (t : TableView). IsShape t.shape) (sym table) i.shape;
    all_scanners = ap (λ (t : TableView). t.shape.scanners) table ∙ i.scanners;
    size = size ∙ ap winners (sym table);
    alone = subst (λ (x : ClosingView). x ≡ with_seats x.table x.scanners) (sym h.ended.0) refl;
    count =
        sym (length-map later seat_in) ∙ ap (λ (l : List CallerView). length l) seats ∙ length-map passes seat_in ∙ all
        ∙ ap (λ (t : TableView). t.shape.passes) (sym table);
    settled = of_seats IsMine later (subst (All IsMine) (sym seats) mine);
    held = subst (λ (x : ClosingView). AreHeld x.table 0 numbers x.scanners) (sym h.ended.0) h.are_held;
    taken = all_taken;
  }
