-- What the crates above may cite.
use Rattle.std.proofs.Common.{◌≡◌, ◌∙◌, ℕ, ◌+◌, ◌<◌, List, [], ap, arith, eqb, get_or, length, refl, subst, sym}
use Rattle.std.specs.Prelude.{All, count_by, slice_index, sum_by}
use Rattle.std.specs.List.{range_with_len}
use Rattle.std.proofs.lemmas.List.Elements.{All-map}
use Rattle.room_core.specs.declared.parts.Stage.{Stage}
use Rattle.room_core.specs.declared.parts.Taken.{Taken}
use Rattle.room_core.specs.declared.shape.Shape.{Shape}
use Rattle.room_core.specs.Counts.{sum_below}
use Rattle.room_core.specs.State.{Caller, Scanner}
use Rattle.room_core.specs.declared.parts.Source.{Source}
use Rattle.room_core.proofs.Laws.{wins_of-pass, wins_of-scanner}
use Rattle.room_table.specs.Handed.{fresh_caller, fresh_callers, fresh_source, fresh_sources}
use Rattle.room_table.specs.Seats.{CallerView, ScanView, SourceView, caller_now, scanner_now, source_now}
use Rattle.purgatory.specs.Closed.{IsClosed, IsLeftOpen, stored_in}
use Rattle.purgatory.specs.Ends.{AreAllScanners, IsScannerSeat, StillView}
use Rattle.purgatory.specs.Going.{OwesNothing}
use Rattle.purgatory.specs.Rooms.{IsOfRoom, IsSourceOf, PassView, RoomView, fresh_passes, with_locks}
-- a pass that goes on, and one that keeps its operation
pub use Rattle.purgatory.proofs.Goes.{goes_by, goes_far, kept_far, kept_same, one_step, stays}
-- what a pass finds of its word
pub use Rattle.purgatory.proofs.Words.{open_stage, polled_owed, took_owed}
-- items by the numbers from the first one on
pub use Rattle.purgatory.proofs.Made.{from_at, from_more, from_pop}
-- a sum over items by their numbers
pub use Rattle.purgatory.proofs.Added.{by_number, of_number, sum_keyed}

-- the passes of a new room were made with it, and have made no step
pub passes_of_room : (room : RoomView) → All (λ (pass : PassView). IsOfRoom room pass × (pass.seat.steps ≡ [])) (fresh_passes room)
passes_of_room room =
    let P : PassView → Type 0 = λ pass. IsOfRoom room pass × (pass.seat.steps ≡ []) in
    All-map P (with_locks room.locks) (fresh_callers room.table)
    (All-map (λ (seat : CallerView). P (with_locks room.locks seat)) (fresh_caller room.table) (range_with_len 0 room.table.shape.passes)
    (λ k d less. (record { table = refl; locks = refl }, refl)))

-- between two calls each has no operation, and owes nothing
pub passes_at_rest : (room : RoomView) → All (λ (pass : PassView). IsOfRoom room pass × ((caller_now pass.seat).stage ≡ Stage.Idle) × OwesNothing (caller_now pass.seat)) (fresh_passes room)
passes_at_rest room =
    let P : PassView → Type 0 = λ pass. IsOfRoom room pass × ((caller_now pass.seat).stage ≡ Stage.Idle) × OwesNothing (caller_now pass.seat) in
    All-map P (with_locks room.locks) (fresh_callers room.table)
    (All-map (λ (seat : CallerView). P (with_locks room.locks seat)) (fresh_caller room.table) (range_with_len 0 room.table.shape.passes)
    (λ k d less. (record { table = refl; locks = refl }, refl, λ gauge. refl)))

-- so were its sources
pub sources_of_room : (room : RoomView) → All (λ (source : SourceView). IsSourceOf room source × (source.steps ≡ [])) (fresh_sources room.table)
sources_of_room room =
    let P : SourceView → Type 0 = λ source. IsSourceOf room source × (source.steps ≡ []) in
    All-map P (fresh_source room.table) (range_with_len 0 room.table.shape.gauges) (λ k d less. (refl, refl))

-- a room that was closed
module _ (still : StillView) (sources : List SourceView) (numbers : List ℕ) (c : IsClosed still sources numbers) where
  -- the source of a gauge, what is so of it, and what the state says of it
  pub source_of_gauge : (P : SourceView → Type 0) → All P sources → (gauge : ℕ) → gauge < still.table.shape.gauges
      → (seat : SourceView) × (seat.gauge ≡ gauge) × P seat × (stored_in c.shown.state gauge ≡ (source_now seat).stored)
  source_of_gauge P all gauge there =
      let one = c.shown.one_source gauge there in
      let Q : SourceView → Type 0 = λ seat. P seat × (c.shown.state.source seat.gauge ≡ source_now seat) in
      let found = of_number Q (λ (seat : SourceView). seat.gauge) sources (λ k d less. (all k d less, c.shown.source k d less)) gauge (omega (arith, one)) in
      (found.0, found.1, found.2.0, ap (stored_in c.shown.state) (sym found.1) ∙ ap (λ (x : Source). x.stored) found.2.1)

  -- the seat of a pass, what is so of it, what the state says of it, and how it was left where it waits
  pub pass_of_number : (P : CallerView → Type 0) → All P still.callers → (pass : ℕ) → pass < still.table.shape.passes
      → (seat : CallerView) × (seat.pass ≡ pass) × P seat × (c.shown.state.caller pass ≡ caller_now seat) × ((caller_now seat).stage ≡ Stage.Waiting → IsLeftOpen c.shown.state seat)
  pass_of_number P all pass there =
      let one = c.shown.one_caller pass there in
      let Q : CallerView → Type 0 = λ seat. P seat × (c.shown.state.caller seat.pass ≡ caller_now seat) × ((caller_now seat).stage ≡ Stage.Waiting → IsLeftOpen c.shown.state seat) in
      let found = of_number Q (λ (seat : CallerView). seat.pass) still.callers (λ k d less. (all k d less, c.shown.caller k d less, c.waiting k d less)) pass (omega (arith, one)) in
      (found.0, found.1, found.2.0, ap c.shown.state.caller (sym found.1) ∙ found.2.1, found.2.2)

  -- what a winner has won is what the passes have taken that names it
  pub number_is_taken : (by : ℕ) → by < 17 + still.table.shape.passes
      → slice_index numbers by ≡ sum_by (λ (seat : CallerView). count_by (λ (item : Taken). eqb item.by by) (caller_now seat).taken) still.callers
  number_is_taken by there =
      let f : ℕ → ℕ = λ pass. count_by (λ (item : Taken). eqb item.by by) (c.shown.state.caller pass).taken in
      let g : CallerView → ℕ = λ seat. count_by (λ (item : Taken). eqb item.by by) (caller_now seat).taken in
      let passes = ap (λ (s : Shape). s.passes) c.shown.shape in
      c.taken by there
      ∙ ap (sum_below f) passes
      ∙ sym (sum_keyed (λ (seat : CallerView). seat.pass) f still.table.shape.passes still.callers g c.shown.passes
      (λ k d less. ap (λ (x : Caller). count_by (λ (item : Taken). eqb item.by by) x.taken) (sym (c.shown.caller k d less))) c.shown.one_caller)

  -- a pass's number has what its seat has won
  pub number_of_pass : (k : ℕ) (d : CallerView) → k < length still.callers → slice_index numbers (17 + (get_or still.callers k d).pass) ≡ length (caller_now (get_or still.callers k d)).wins
  number_of_pass k d less =
      let seat = get_or still.callers k d in
      let there = c.shown.passes k d less in
      c.won (17 + seat.pass) (omega (arith, there)) ∙ ap (λ xs. length xs) (wins_of-pass c.shown.state.scanner c.shown.state.caller seat.pass) ∙ ap (λ (x : Caller). length x.wins) (c.shown.caller k d less)

  -- a scanner's number has what its seat has won
  pub number_of_scanner : AreAllScanners still.table still.scanners → (k : ℕ) (d : ScanView) → k < 17 → slice_index numbers k ≡ length (scanner_now (get_or still.scanners k d)).wins
  number_of_scanner all k d less =
      let seat = get_or still.scanners k d in
      let size = all.all in
      let place : k < length still.scanners = omega (arith, less, size) in
      let is = subst (λ n. IsScannerSeat still.table n seat) (omega arith) (from_at (IsScannerSeat still.table) 0 still.scanners all.each k d place) in
      c.won k (omega (arith, less)) ∙ ap (λ xs. length xs) (wins_of-scanner c.shown.state.scanner c.shown.state.caller k less)
      ∙ ap (λ (x : Scanner). length x.wins) (ap c.shown.state.scanner (sym is.number) ∙ c.shown.scanner k d place)
