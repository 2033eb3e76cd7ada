-- The passes of seats and hands, one by one.
use Rattle.std.proofs.Common.{◌≡◌, ℕ, List, [], ◌∷◌, ◌++◌, length, ap, refl, arith}
use Rattle.std.specs.Prelude.{All, Some, sum_by, ⊤}
use Rattle.std.proofs.lemmas.List.{length_push}
use Rattle.std.proofs.lemmas.List.Elements.{All-cons, All-nil, All-pop, All-push}
use Rattle.std.proofs.lemmas.List.Sums.{sum_by-cons, sum_by_push}
use Rattle.turn_lock.specs.declared.lock.TurnLock.{TurnLock}
use Rattle.shared_logs.specs.declared.entries.ClockEntry.{ClockEntry}
use Rattle.shared_logs.specs.declared.entries.LogEntry.{LogEntry}
use Rattle.shared_logs.specs.Desks.{MomentView, PartView}
use Rattle.purgatory.specs.Ends.{IsSettled}
use Rattle.purgatory.specs.Going.{OwesNothing}
use Rattle.purgatory.specs.Rooms.{PassView, RoomView}
use Rattle.room_table.specs.Seats.{caller_now}
use Rattle.shared_logs.specs.declared.hands.Hand.{Hand}
use Rattle.shared_logs.specs.Apart.{AreJoined, IsJoined, IsOfClock, IsOfLocks, gathered, joined}
use Rattle.shared_logs.specs.Locked.{shared_view}
use Rattle.shared_logs.specs.Shared.{LogPassView, SharedView}

-- what is so of each pass, of its seat and its hand
abbrev pub ByPairs : (PassView → Hand → Type 0) → List PassView → List Hand → Type 0
ByPairs P [] [] = ⊤
ByPairs P [] (hand ∷ hands) = ⊥
ByPairs P (seat ∷ seats) [] = ⊥
ByPairs P (seat ∷ seats) (hand ∷ hands) = P seat hand × ByPairs P seats hands

-- what is so of all passes is so of each pair, and the other way round
pub pairs_of : (P : LogPassView → Type 0) (seats : List PassView) (hands : List Hand) → AreJoined seats hands → All P (gathered seats hands) → ByPairs (λ seat hand. IsJoined seat hand × P (joined seat hand)) seats hands
pairs_of P [] [] j all = tt
pairs_of P [] (hand ∷ hands) j all = absurd j
pairs_of P (seat ∷ seats) [] j all = absurd j
pairs_of P (seat ∷ seats) (hand ∷ hands) j all =
    let both = All-pop P (gathered seats hands ++ joined seat hand ∷ []) (gathered seats hands) (Some (joined seat hand)) refl all in
    ((j.0, both.1), pairs_of P seats hands j.1 both.0)

pub of_pairs : (P : LogPassView → Type 0) (Q : PassView → Hand → Type 0) (seats : List PassView) (hands : List Hand) → ByPairs Q seats hands → ((seat : PassView) (hand : Hand) → Q seat hand → P (joined seat hand)) → All P (gathered seats hands)
of_pairs P Q [] [] all f = All-nil P
of_pairs P Q [] (hand ∷ hands) all f = absurd all
of_pairs P Q (seat ∷ seats) [] all f = absurd all
of_pairs P Q (seat ∷ seats) (hand ∷ hands) all f = All-push P (gathered seats hands) (joined seat hand) (of_pairs P Q seats hands all.1 f) (f seat hand all.0)

pub seats_in : (P : PassView → Type 0) (Q : PassView → Hand → Type 0) (seats : List PassView) (hands : List Hand) → ByPairs Q seats hands → ((seat : PassView) (hand : Hand) → Q seat hand → P seat) → All P seats
seats_in P Q [] [] all f = All-nil P
seats_in P Q [] (hand ∷ hands) all f = absurd all
seats_in P Q (seat ∷ seats) [] all f = absurd all
seats_in P Q (seat ∷ seats) (hand ∷ hands) all f = All-cons P seat seats (f seat hand all.0) (seats_in P Q seats hands all.1 f)

pub hands_in : (P : Hand → Type 0) (Q : PassView → Hand → Type 0) (seats : List PassView) (hands : List Hand) → ByPairs Q seats hands → ((seat : PassView) (hand : Hand) → Q seat hand → P hand) → All P hands
hands_in P Q [] [] all f = All-nil P
hands_in P Q [] (hand ∷ hands) all f = absurd all
hands_in P Q (seat ∷ seats) [] all f = absurd all
hands_in P Q (seat ∷ seats) (hand ∷ hands) all f = All-cons P hand hands (f seat hand all.0) (hands_in P Q seats hands all.1 f)

pub gathered_count : (seats : List PassView) (hands : List Hand) → AreJoined seats hands → (length (gathered seats hands) ≡ length seats) × (length (gathered seats hands) ≡ length hands)
gathered_count [] [] j = (refl, refl)
gathered_count [] (hand ∷ hands) j = absurd j
gathered_count (seat ∷ seats) [] j = absurd j
gathered_count (seat ∷ seats) (hand ∷ hands) j =
    let rest = gathered_count seats hands j.1 in
    let more = length_push (gathered seats hands) (joined seat hand) in
    let a = rest.0 in
    let b = rest.1 in
    (omega (arith, more, a), omega (arith, more, b))

-- a sum over the passes, of what depends on the seat alone, and of what depends on the hand alone
pub seat_sum : (f : LogPassView → ℕ) (g : PassView → ℕ) (seats : List PassView) (hands : List Hand) → AreJoined seats hands → ((seat : PassView) (hand : Hand) → f (joined seat hand) ≡ g seat)
    → sum_by f (gathered seats hands) ≡ sum_by g seats
seat_sum f g [] [] j same = refl
seat_sum f g [] (hand ∷ hands) j same = absurd j
seat_sum f g (seat ∷ seats) [] j same = absurd j
seat_sum f g (seat ∷ seats) (hand ∷ hands) j same =
    omega (arith, sum_by_push f (gathered seats hands) (joined seat hand), sum_by-cons g seat seats, same seat hand, seat_sum f g seats hands j.1 same)

pub hand_sum : (f : LogPassView → ℕ) (g : Hand → ℕ) (seats : List PassView) (hands : List Hand) → AreJoined seats hands → ((seat : PassView) (hand : Hand) → f (joined seat hand) ≡ g hand)
    → sum_by f (gathered seats hands) ≡ sum_by g hands
hand_sum f g [] [] j same = refl
hand_sum f g [] (hand ∷ hands) j same = absurd j
hand_sum f g (seat ∷ seats) [] j same = absurd j
hand_sum f g (seat ∷ seats) (hand ∷ hands) j same =
    omega (arith, sum_by_push f (gathered seats hands) (joined seat hand), sum_by-cons g hand hands, same seat hand, hand_sum f g seats hands j.1 same)

-- the passes of these logs, each of which owes nothing
module _ (room : RoomView) (parts : List (TurnLock PartView LogEntry)) (clock : TurnLock MomentView ClockEntry) (seats : List PassView) (hands : List Hand) (all : AreJoined seats hands)
    (made : All (λ (pass : LogPassView). pass.made ≡ shared_view room parts clock) (gathered seats hands)) (paid : All (λ (pass : LogPassView). OwesNothing (caller_now pass.seat)) (gathered seats hands)) where
  made_pairs : ByPairs (λ seat hand. IsJoined seat hand × ((joined seat hand).made ≡ shared_view room parts clock)) seats hands
  made_pairs = pairs_of (λ (pass : LogPassView). pass.made ≡ shared_view room parts clock) seats hands all made

  both_pairs : (ss : List PassView) (hs : List Hand) → ByPairs (λ seat hand. IsJoined seat hand × ((joined seat hand).made ≡ shared_view room parts clock)) ss hs → ByPairs (λ seat hand. IsJoined seat hand × OwesNothing (caller_now (joined seat hand).seat)) ss hs
      → ByPairs (λ seat hand. ((joined seat hand).made ≡ shared_view room parts clock) × OwesNothing (caller_now seat.seat)) ss hs
  both_pairs [] [] a b = tt
  both_pairs [] (h ∷ hs) a b = absurd a
  both_pairs (s ∷ ss) [] a b = absurd a
  both_pairs (s ∷ ss) (h ∷ hs) a b = ((a.0.1, b.0.1), both_pairs ss hs a.1 b.1)

  pub all_settled : All (IsSettled room) seats
  all_settled =
      seats_in (IsSettled room) (λ seat hand. ((joined seat hand).made ≡ shared_view room parts clock) × OwesNothing (caller_now seat.seat)) seats hands
      (both_pairs seats hands made_pairs (pairs_of (λ (pass : LogPassView). OwesNothing (caller_now pass.seat)) seats hands all paid))
      (λ seat hand is. record { made = record { table = ap (λ (v : SharedView). v.room.table) is.0; locks = ap (λ (v : SharedView). v.room.locks) is.0 }; paid = is.1 })

  pub all_of_locks : All (IsOfLocks parts) hands
  all_of_locks =
      hands_in (IsOfLocks parts) (λ seat hand. IsJoined seat hand × ((joined seat hand).made ≡ shared_view room parts clock)) seats hands made_pairs
      (λ seat hand is. record { locks_are = ap (λ (v : SharedView). v.parts) is.1; hands_are = is.0.parts_are })

  pub all_of_clock : All (IsOfClock clock) hands
  all_of_clock =
      hands_in (IsOfClock clock) (λ seat hand. IsJoined seat hand × ((joined seat hand).made ≡ shared_view room parts clock)) seats hands made_pairs
      (λ seat hand is. record { lock_is = ap (λ (v : SharedView). v.clock) is.1; hand_is = is.0.clock_is })
