-- The turns of all locks, held together.
use Rattle.std.proofs.Common.{◌≡◌, ◌∙◌, ℕ, ◌+◌, ◌-◌, ◌^◌, ◌<◌, List, [], ◌∷◌, min, length, get_or, set, map, ap, refl, subst, sym, arith}
use Rattle.std.specs.Prelude.{slice_index}
use Rattle.std.proofs.lemmas.List.Sums.{sum_by-cons}
use Rattle.std.proofs.lemmas.List.{get_or-map, map-set, set-get_or, set-set}
use Rattle.turn_lock.specs.declared.lock.TurnLock.{TurnLock}
use Rattle.turn_lock.specs.declared.pass.TurnPass.{TurnPass}
use Rattle.turn_lock.specs.Locks.{IsPassOf, IsReady, lock_name}
use Rattle.room_core.specs.Scans.{HasNoDuty}
use Rattle.room_table.specs.Closing.{ClosingView, with_scanner}
use Rattle.room_table.specs.Seats.{ScanView, TableView, scanner_now}
use Rattle.purgatory.specs.scans.Desks.{ClockView, ShardView, desk_name}
use Rattle.purgatory.proofs.scans.Laws.{name_number, name_table}
use Rattle.purgatory.specs.declared.holding.Held.{Held}
use Rattle.purgatory.specs.Ends.{IsScannerSeat, won_by_scanners}
use Rattle.purgatory.specs.Holding.{AreHeld, AreKeysFrom, IsHeldFor}
use Rattle.purgatory.specs.Rooms.{AreNamed, LockView}
use Rattle.purgatory.specs.Turning.{IsKey, clock_name, key_view, lock_view, lock_views, shard_name}
use Rattle.purgatory.proofs.Doors.{belongs, front_at, shard_named, shows}

-- the seat of a desk with this name
pub named_seat : (table : TableView) (k : ℕ) (seat : ScanView) → desk_name seat.table seat.scanner ≡ desk_name table k → HasNoDuty (scanner_now seat) → IsScannerSeat table k seat
named_seat table k seat e none = record {
  table_is = name_table seat.table table seat.scanner k e;
  number = name_number seat.table table seat.scanner k e;
  no_duty = none;
}

-- a scanner more
pub more_held : (table : TableView) (at : ℕ) (wins : List ℕ) (seat : ScanView) (seats : List ScanView) → IsScannerSeat table at seat → slice_index wins at ≡ length (scanner_now seat).wins
    → AreHeld table (at + 1) wins seats → AreHeld table at wins (seat ∷ seats)
more_held table at wins seat seats is noted h =
    let all = h.all in
    record { all = omega (arith, all); each = (is, h.each); noted = (noted, h.noted) }

pub last_held : (table : TableView) (wins : List ℕ) (seat : ScanView) → IsScannerSeat table 16 seat → slice_index wins 16 ≡ length (scanner_now seat).wins → AreHeld table 16 wins (seat ∷ [])
last_held table wins seat is noted = record { all = refl; each = (is, tt); noted = (noted, tt) }

module _ (table : TableView) (at won taken : ℕ) (wins : List ℕ) (seat : ScanView) (sum : ℕ) (sum_is : sum ≡ min (won + length (scanner_now seat).wins) (2 ^ 64 - 1)) where
  won_so : (seats : List ScanView) → won_by_scanners (seat ∷ seats) ≡ length (scanner_now seat).wins + won_by_scanners seats
  won_so seats = sum_by-cons (λ (s : ScanView). length (scanner_now s).wins) seat seats

  -- what was won with this scanner's seat is more than was taken, or not
  pub more_won : (seats : List ScanView) (again : TableView) → IsHeldFor table sum taken seats (Held.Untaken again) → IsHeldFor table won taken (seat ∷ seats) (Held.Untaken again)
  more_won seats again h =
      let more = h.1 in
      (h.0, omega (arith, more, sum_is, won_so seats))

  pub all_taken : (seats : List ScanView) (closing more : ClosingView) → taken < 2 ^ 64 - 1 → IsHeldFor table sum taken seats (Held.Still closing) → more ≡ with_scanner closing seat
      → IsHeldFor table won taken (seat ∷ seats) (Held.Still more)
  all_taken seats closing more few h e =
      let less = h.1 in
      (e ∙ ap (λ (c : ClosingView). with_scanner c seat) h.0, omega (arith, few, less, sum_is, won_so seats))

module _ {E F : Type 0} (table : TableView) (locks : List (TurnLock ShardView E)) (clock : TurnLock ClockView F) (views : List LockView) (keys : List (TurnPass ShardView E)) (at : ℕ) (shown : lock_views locks clock ≡ views)
    (sixteen : length locks ≡ 16) (named : AreNamed table views) (h : AreKeysFrom at views keys) (less : at < 16) (lock : TurnLock ShardView E) (key : TurnPass ShardView E) (is : lock ≡ get_or locks at lock)
    (has : key ≡ get_or keys at key) where
  -- the lock of the next turn, and the pass of it
  pub name_at : lock_name shard_name lock ≡ desk_name table at
  name_at = shard_named table locks clock sixteen (subst (AreNamed table) (sym shown) named) at lock less is

  view_at : key_view key ≡ lock_view shard_name lock
  view_at =
      let d = lock_view shard_name lock in
      ap key_view has ∙ h.views at key d (omega arith) less ∙ sym (ap (λ (xs : List LockView). get_or xs at d) shown)
      ∙ front_at (lock_view shard_name) locks (lock_view clock_name clock) at lock (omega (arith, less, sixteen)) ∙ sym (ap (lock_view shard_name) is)

  pub may_turn : IsPassOf shard_name lock key × IsReady key
  may_turn =
      let all = h.all in
      belongs shard_name lock key table at view_at name_at (subst IsKey (sym has) (h.each at key (omega (arith, less, all))))

  -- the passes show what they did, once the turn is ended
  pub same_back : (turned ended : TurnPass ShardView E) (later : List (TurnPass ShardView E)) → map key_view later ≡ map key_view (set keys at turned) → IsPassOf shard_name lock ended × IsReady ended
      → map key_view (set later at ended) ≡ map key_view keys
  same_back turned ended later e done =
      let all = h.all in
      let view : key_view ended ≡ get_or (map key_view keys) at (key_view key) =
      shows shard_name lock ended done ∙ sym view_at ∙ ap key_view has ∙ sym (get_or-map key_view keys at key (key_view key) (omega (arith, less, all))) in
      map-set key_view later at ended
      ∙ ap (λ (xs : List LockView). set xs at (key_view ended)) (e ∙ map-set key_view keys at turned)
      ∙ set-set (map key_view keys) at (key_view turned) (key_view ended)
      ∙ ap (set (map key_view keys) at) view
      ∙ set-get_or (map key_view keys) at (key_view key)
