-- How shared logs end.
use Rattle.std.proofs.Common.{◌≡◌, ◌∙◌, ℕ, zero, suc, ◌+◌, ◌*◌, ◌<◌, List, [], ◌∷◌, ◌++◌, get_or, length, map, ap, refl, subst, sym, arith}
use Rattle.std.specs.Prelude.{All, Any, slice_index, sum_by}
use Rattle.std.proofs.lemmas.List.{get_or_append_left, get_or-map, length-map, length_push, map-append}
use Rattle.std.proofs.lemmas.List.Elements.{All-weaker}
use Rattle.std.proofs.lemmas.List.Quantifiers.{Any-push}
use Rattle.turn_lock.specs.declared.lock.TurnLock.{TurnLock}
use Rattle.turn_lock.specs.Locks.{lock_name, lock_passes}
use Rattle.shared_logs.specs.declared.entries.ClockEntry.{ClockEntry}
use Rattle.shared_logs.specs.declared.entries.LogEntry.{LogEntry}
use Rattle.shared_logs.specs.Desks.{MomentView, PartView, part_name}
use Rattle.purgatory.specs.scans.Desks.{desk_name}
use Rattle.room_table.specs.Seats.{CallerView, caller_now}
use Rattle.purgatory.specs.Ends.{IsUntaken, IsWaiting, seats_of}
use Rattle.purgatory.specs.Making.{AreFrom}
use Rattle.purgatory.specs.Rooms.{LockView, PassView, RoomView}
use Rattle.shared_logs.specs.declared.hands.Hand.{Hand}
use Rattle.shared_logs.specs.Apart.{AreJoined, gathered, joined}
use Rattle.shared_logs.specs.Closing.{in_room}
use Rattle.shared_logs.specs.Gone.{AreOfRoom, IsNamed}
use Rattle.shared_logs.specs.Locked.{part_lock, shared_view}
use Rattle.shared_logs.specs.Shared.{AreShared, LogPassView}
use Rattle.shared_logs.proofs.Closed.{sum_of_map}
use Rattle.shared_logs.proofs.Gathered.{seat_sum}

from_index : {A : Type 0} (P : ℕ → A → Type 0) (first : ℕ) (xs : List A) → ((k : ℕ) (d : A) → k < length xs → P (first + k) (get_or xs k d)) → AreFrom P first xs
from_index P first [] each = tt
from_index P first (x ∷ xs) each = (
  subst (λ n. P n x) (omega arith) (each 0 x (omega arith)),
  from_index P (first + 1) xs (λ k d less. subst (λ n. P n (get_or xs k d)) (omega arith) (each (suc k) d (omega (arith, less)))),
)

named_self : (name : List ℕ) (n : ℕ) (rest : List ℕ) → name ≡ n ∷ rest → name ≡ slice_index name 0 ∷ rest
named_self name n rest e = e ∙ ap (λ k. k ∷ rest) (sym (ap (λ (l : List ℕ). slice_index l 0) e))

-- shared logs' locks are those of their room
pub of_shared : (room : RoomView) (parts : List (TurnLock PartView LogEntry)) (clock : TurnLock MomentView ClockEntry) → AreShared (shared_view room parts clock) → AreOfRoom room.table parts clock
of_shared room parts clock is =
    let size = length-map parts part_lock in
    record {
      gauges = is.gauges ∙ ap (λ n. 3 * n + 1) size;
      named = from_index (IsNamed room.table) 0 parts
          (λ k d less.
          let there : k < length (map part_lock parts) = omega (arith, less, size) in
          let lock = get_or parts k d in
          let view = get_or-map part_lock parts k d (part_lock d) less in
          let name = ap (λ (l : LockView). l.name) (sym view) ∙ is.parts k (part_lock d) there in
          subst (λ n. IsNamed room.table n lock) (omega arith) (named_self (lock_name part_name lock) _ (desk_name room.table k) name));
      clock_named = is.clock ∙ ap (λ n. desk_name room.table (3 * n)) size;
    }

-- who waits still does
any_before : {A : Type 0} (P : A → Type 0) (xs : List A) (y : A) → Any P xs → Any P (xs ++ y ∷ [])
any_before P xs y a =
    let less = a.2 in
    (a.0, a.1, omega (arith, less, length_push xs y), get_or_append_left xs (y ∷ []) a.1 a.0 less ∙ a.3, a.4)

waiting_at : (seats : List PassView) (hands : List Hand) → AreJoined seats hands → (k : ℕ) (seat : PassView) → k < length seats → get_or seats k seat ≡ seat → IsWaiting seat → Any IsWaiting (map in_room (gathered seats hands))
waiting_at [] hands all k seat less at waits = absurd (omega (arith, less))
waiting_at (s ∷ seats) [] all k seat less at waits = absurd all
waiting_at (s ∷ seats) (hand ∷ hands) all zero seat less at waits =
    subst (Any IsWaiting) (sym (map-append in_room (gathered seats hands) (joined s hand ∷ [])))
    (Any-push IsWaiting (map in_room (gathered seats hands)) (in_room (joined s hand)) (subst IsWaiting (sym at) waits))
waiting_at (s ∷ seats) (hand ∷ hands) all (suc k) seat less at waits =
    subst (Any IsWaiting) (sym (map-append in_room (gathered seats hands) (joined s hand ∷ [])))
    (any_before IsWaiting (map in_room (gathered seats hands)) (in_room (joined s hand)) (waiting_at seats hands all.1 k seat (omega (arith, less)) at waits))

module _ (seats : List PassView) (hands : List Hand) (all : AreJoined seats hands) where
  sums : (g : CallerView → ℕ) → sum_by g (seats_of (map in_room (gathered seats hands))) ≡ sum_by g (seats_of seats)
  sums g =
      sum_of_map (λ (pass : PassView). pass.seat) g (map in_room (gathered seats hands))
      ∙ sum_of_map in_room (λ (pass : PassView). g pass.seat) (gathered seats hands)
      ∙ seat_sum (λ (pass : LogPassView). g pass.seat) (λ (seat : PassView). g seat.seat) seats hands all (λ seat hand. refl)
      ∙ sym (sum_of_map (λ (pass : PassView). pass.seat) g seats)

  waiting : Any IsWaiting seats → Any IsWaiting (map in_room (gathered seats hands))
  waiting w = waiting_at seats hands all w.0 w.1 w.2 w.3 w.4

  pub untaken : (room : RoomView) → IsUntaken room seats → IsUntaken room (map in_room (gathered seats hands))
  untaken room was =
      let taken = sums (λ (seat : CallerView). length (caller_now seat).taken) in
      let won = sums (λ (seat : CallerView). length (caller_now seat).wins) in
      let more = was.more in
      record { seats = was.seats; scanners = was.scanners; more = omega (arith, taken, won, more); waits = waiting was.waits }

pub passes_so : (room : RoomView) (parts : List (TurnLock PartView LogEntry)) (n : ℕ) → n ≡ room.table.shape.passes → All (λ (lock : TurnLock PartView LogEntry). lock_passes lock ≡ room.table.shape.passes) parts
    → All (λ (lock : TurnLock PartView LogEntry). lock_passes lock ≡ n) parts
passes_so room parts n e have =
    All-weaker (λ (lock : TurnLock PartView LogEntry). lock_passes lock ≡ room.table.shape.passes) (λ (lock : TurnLock PartView LogEntry). lock_passes lock ≡ n) (λ lock is. is ∙ sym e) parts have
