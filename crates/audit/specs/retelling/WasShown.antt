-- What is shown of the partitions of a call: each as it was just after the entry at a place of its history.
use Rattle.std.specs.Prelude.{ℕ, ◌≡◌, ◌<◌, List, [], ◌∷◌, drop, ⊤}
use Rattle.partlog.specs.History.{History}
use Rattle.partlog.specs.State.{PartState as State, state_at}
use Rattle.audit.specs.broker.Board.{history_at}
use Rattle.kanswer.specs.declared.accepted.Accepted.{Accepted}
use Rattle.kanswer.specs.declared.accepted.Accepted.TheVariants.{Refused, Appended, Seen}
use Rattle.kanswer.specs.Waiting.{Shown}
use Rattle.audit.specs.declared.account.CallHow.{CallHow}
use Rattle.audit.specs.declared.account.CallHow.TheVariants.{Quiet, AtOnce, Satisfied, Expired, Parked, Cut}
use Rattle.audit.specs.declared.account.Point.{Point}

-- with `count` pasts, the partition whose log was asked has one
abbrev pub HasPast : ℕ → Accepted → Type 0
HasPast count (Refused code) = ⊤
HasPast count (Appended part base n) = part < count
HasPast count (Seen part start) = part < count

abbrev pub IsShownAt : List History → Accepted → ℕ → State → Type 0
IsShownAt pasts (Refused code) place state = ⊤
IsShownAt pasts (Appended part base count) place state = state ≡ state_at (history_at pasts part) place
IsShownAt pasts (Seen part start) place state = state ≡ state_at (history_at pasts part) place

abbrev pub AreShown : List History → List Accepted → List ℕ → List Shown → Type 0
AreShown pasts [] [] [] = ⊤
AreShown pasts (result ∷ results) (place ∷ places) (s ∷ shown) =
    (s.result ≡ result) × IsShownAt pasts result place s.state × AreShown pasts results places shown
AreShown pasts _ _ _ = ⊥

-- the places of these looks, one for each partition whose log was asked, and 0 for one that was refused or wasn't reached
abbrev pub look_places : List Accepted → List Point → List ℕ
look_places [] looks = []
look_places (Refused code ∷ results) looks = 0 ∷ look_places results looks
look_places (Appended part base count ∷ results) [] = 0 ∷ look_places results []
look_places (Appended part base count ∷ results) (look ∷ looks) = look.place ∷ look_places results looks
look_places (Seen part start ∷ results) [] = 0 ∷ look_places results []
look_places (Seen part start ∷ results) (look ∷ looks) = look.place ∷ look_places results looks

-- the places at which the reply of a call that ended in this way shows its partitions
abbrev pub told_places : CallHow → List Accepted → List ℕ → List Point → List ℕ
told_places Quiet results own finish = own
told_places AtOnce results own finish = own
told_places (Satisfied by) results own finish = look_places results finish
told_places (Expired by) results own finish = look_places results (drop 1 finish)
told_places Parked results own finish = own
told_places (Cut won) results own finish = own
