-- Passes taken apart: their seats in the room, and what else they have.
use Rattle.std.specs.Prelude.{◌≡◌, List, [], ◌∷◌, ◌++◌, All, map, ⊤}
use Rattle.turn_lock.specs.declared.lock.TurnLock.{TurnLock}
use Rattle.turn_lock.specs.declared.pass.TurnPass.{TurnPass}
use Rattle.shared_logs.specs.declared.entries.ClockEntry.{ClockEntry}
use Rattle.shared_logs.specs.declared.entries.LogEntry.{LogEntry}
use Rattle.shared_logs.specs.Desks.{MomentView, PartView}
use Rattle.shared_logs.specs.Entries.{clock_by, entry_by}
use Rattle.purgatory.specs.Rooms.{PassView}
use Rattle.shared_logs.specs.declared.hands.Hand.{Hand}
use Rattle.shared_logs.specs.Locked.{IsHand, IsLogPass, lock_of, moment_lock, part_lock, pass_view}
use Rattle.shared_logs.specs.Shared.{LogPassView}

-- the pass of a seat and a hand
abbrev pub joined : PassView → Hand → LogPassView
joined seat hand = pass_view hand.number seat hand.parts.items hand.clock

abbrev pub IsJoined : PassView → Hand → Type 0
IsJoined seat hand = IsLogPass hand.number seat hand.parts.items hand.clock hand.moment hand.ticked

-- the passes of these seats and hands, which stand in the opposite order
abbrev pub gathered : List PassView → List Hand → List LogPassView
gathered [] [] = []
gathered [] (hand ∷ hands) = []
gathered (seat ∷ seats) [] = []
gathered (seat ∷ seats) (hand ∷ hands) = gathered seats hands ++ joined seat hand ∷ []

abbrev pub AreJoined : List PassView → List Hand → Type 0
AreJoined [] [] = ⊤
AreJoined [] (hand ∷ hands) = ⊥
AreJoined (seat ∷ seats) [] = ⊥
AreJoined (seat ∷ seats) (hand ∷ hands) = IsJoined seat hand × AreJoined seats hands

-- the hand has a pass of each of these locks
pub record IsOfLocks (locks : List (TurnLock PartView LogEntry)) (hand : Hand) : Type 0 where
  pub locks_are : map lock_of hand.parts.items ≡ map part_lock locks
  pub hands_are : All (IsHand entry_by hand.number) hand.parts.items

-- and one of the clock's
pub record IsOfClock (lock : TurnLock MomentView ClockEntry) (hand : Hand) : Type 0 where
  pub lock_is : lock_of hand.clock ≡ moment_lock lock
  pub hand_is : IsHand clock_by hand.number hand.clock

-- the hand without its first pass of a partition
pub record IsRest (hand : Hand) (first : TurnPass PartView LogEntry) (rest : Hand) : Type 0 where
  pub number : rest.number ≡ hand.number
  pub parts : hand.parts.items ≡ first ∷ rest.parts.items
  pub clock : rest.clock ≡ hand.clock

abbrev pub AreRests : List Hand → List (TurnPass PartView LogEntry) → List Hand → Type 0
AreRests [] [] [] = ⊤
AreRests (hand ∷ hands) (first ∷ firsts) (rest ∷ rests) = IsRest hand first rest × AreRests hands firsts rests
AreRests [] [] (rest ∷ rests) = ⊥
AreRests [] (first ∷ firsts) rests = ⊥
AreRests (hand ∷ hands) [] rests = ⊥
AreRests (hand ∷ hands) (first ∷ firsts) [] = ⊥
