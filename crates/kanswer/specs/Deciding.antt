-- Decisions that ask logs which are there, each once, and whose outcomes speak of their own logs.
use Rattle.std.specs.Prelude.{◌≡◌, ◌≢◌, ◌<◌, ℕ, List, [], ◌∷◌, ⊤}
use Rattle.std.specs.List.{AllByRecursion}
use Rattle.partlog.specs.State.{PartState}
use Rattle.kanswer.specs.declared.accepted.Accepted.{Accepted}
use Rattle.kanswer.specs.declared.accepted.Accepted.TheVariants.{Refused, Appended, Seen}
use Rattle.kanswer.specs.Decisions.{Decision, Refuse, AskLog, Entry}

-- it asks another log than that of this partition
abbrev pub AsksOther : ℕ → Decision → Type 0
AsksOther part (Refuse code) = ⊤
AsksOther part (AskLog other outcome) = other ≢ part

-- no log is asked twice
abbrev pub AskOnce : List Decision → Type 0
AskOnce [] = ⊤
AskOnce (Refuse code ∷ decisions) = AskOnce decisions
AskOnce (AskLog part outcome ∷ decisions) = AllByRecursion (AsksOther part) decisions × AskOnce decisions

-- the log that is asked is one of so many
abbrev pub AsksWithin : ℕ → Decision → Type 0
AsksWithin n (Refuse code) = ⊤
AsksWithin n (AskLog part outcome) = part < n

-- the outcome speaks of its own partition, and of an append at the log end
abbrev pub IsHonestAs : ℕ → PartState → Accepted → Entry → Type 0
IsHonestAs part state (Refused code) entry = ⊤
IsHonestAs part state (Appended q base count) entry = (q ≡ part) × (base ≡ state.log_end) × (0 < count)
IsHonestAs part state (Seen q start) entry = q ≡ part

abbrev pub IsHonest : Decision → Type 0
IsHonest (Refuse code) = ⊤
IsHonest (AskLog part outcome) = (state : PartState) → IsHonestAs part state (outcome state).result (outcome state).entry

-- a result's partition is one of so many, and what was appended has records
abbrev pub IsSound : ℕ → Accepted → Type 0
IsSound n (Refused code) = ⊤
IsSound n (Appended part base count) = (part < n) × (0 < count)
IsSound n (Seen part start) = part < n
