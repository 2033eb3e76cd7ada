-- The entries that a request leaves in the histories.
use Rattle.std.proofs.Common.{◌≡◌, ℕ, ◌<◌, List, [], ◌∷◌, length, set, refl, sym, subst, ◌∙◌, arith, inl, inr}
use Rattle.std.proofs.lemmas.Bool.{cases_lt}
use Rattle.std.proofs.lemmas.List.{length-set}
use Rattle.std.proofs.lemmas.Option.{slice_get_within}
use Rattle.std.specs.Prelude.{slice_get}
use Rattle.std.specs.List.{AllByRecursion}
use Rattle.partlog.specs.declared.clock_event.ClockEvent.{ClockEvent}
use Rattle.partlog.specs.declared.event.PartEvent.{PartEvent}
use Rattle.partlog.specs.History.{History}
use Rattle.partlog.specs.Moment.{moment_of}
use Rattle.partlog.specs.State.{PartState, state_of}
use Rattle.audit.specs.declared.account.Point.{Point}
use Rattle.kanswer.specs.Decisions.{Decision, Entry, Looked, Refuse, AskLog}
use Rattle.kanswer.specs.WithEntry.{entered}
use Rattle.audit.specs.broker.Board.{history_at}
use Rattle.audit.specs.broker.Entering.{accept_all}
use Rattle.audit.proofs.broker.Growth.{entered_events, event_of}
use Rattle.audit.proofs.broker.Entries.{IsFair, accepted_longer}
use Rattle.audit.proofs.broker.Accepting.{look_decisions}
use Rattle.audit.proofs.broker.Timely.{IsTimelyEvent, NewEvents, entry_timely, events_at, set_new, was_there}
use Rattle.audit.proofs.broker.Late.{TakesNobody, entry_takes}

-- whatever the state, it leaves no other entries
abbrev pub LeavesOnly : (Entry → Type 0) → Decision → Type 0
LeavesOnly P (Refuse code) = Unit {0}
LeavesOnly P (AskLog part outcome) = (state : PartState) → P (outcome state).entry

-- an entry of this call, of which this holds
abbrev pub IsLeft : ℕ → ℕ → ℕ → (Entry → Type 0) → PartEvent → Type 0
IsLeft by seq t P event = (entry : Entry) × P entry × (event ≡ event_of by seq t entry)

pub accepted_new : (by seq t n : ℕ) (P : Entry → Type 0) (decisions : List Decision) (parts : List History) → length parts ≡ n → AllByRecursion (IsFair n) decisions → AllByRecursion (LeavesOnly P) decisions
    → NewEvents parts (accept_all by seq t decisions parts).1 (IsLeft by seq t P)
accepted_new by seq t n P [] parts size fair leave part place event e past = absurd (omega (arith, slice_get_within (events_at parts part) place event e, past))
accepted_new by seq t n P (Refuse code ∷ decisions) parts size fair leave part place event e past = accepted_new by seq t n P decisions parts size fair.1 leave.1 part place event e past
accepted_new by seq t n P (AskLog asked outcome ∷ decisions) parts size fair leave part place event e past =
    let found = history_at parts asked in
    let entry = (outcome (state_of found)).entry in
    let left = entered found by seq t entry in
    let parts1 = set parts asked left in
    let within : asked < length parts = omega (arith, size, fair.0.0) in
    let size1 : length parts1 ≡ n = length-set parts asked left ∙ size in
    elim (cases_lt place (length (events_at parts1 part))) [
      | inl lt ↦
          set_new parts asked left (event_of by seq t entry) (IsLeft by seq t P) within (entered_events found by seq t entry) (entry, leave.0 (state_of found), refl) part place event
          (was_there parts1 (accept_all by seq t decisions parts1).1 (accepted_longer by seq t n decisions parts1 size1 fair.1) part place event lt e) past
      | inr later ↦ accepted_new by seq t n P decisions parts1 size1 fair.1 leave.1 part place event e later
    ]

leaves_any : (decisions : List Decision) → AllByRecursion (LeavesOnly (λ entry. Unit {0})) decisions
leaves_any [] = tt
leaves_any (Refuse code ∷ decisions) = (tt, leaves_any decisions)
leaves_any (AskLog part outcome ∷ decisions) = (λ state. tt, leaves_any decisions)

leaves_looks : (ps : List ℕ) → AllByRecursion (LeavesOnly (λ entry. entry ≡ Looked)) (look_decisions ps)
leaves_looks [] = tt
leaves_looks (p ∷ ps) = (λ state. refl, leaves_looks ps)

-- at the clock's moment they are what is asked of each pass, whatever its number, and take nobody out
pub accepted_timely : (number by seq n : ℕ) (clock behind : List ClockEvent) (rows : List (List Point)) (decisions : List Decision) (parts : List History) → length parts ≡ n → AllByRecursion (IsFair n) decisions
    → moment_of behind ≡ moment_of clock → NewEvents parts (accept_all by seq (moment_of clock) decisions parts).1 (IsTimelyEvent number behind rows)
accepted_timely number by seq n clock behind rows decisions parts size fair moment part place event e past =
    let new = accepted_new by seq (moment_of clock) n (λ entry. Unit {0}) decisions parts size fair (leaves_any decisions) part place event e past in
    subst (IsTimelyEvent number behind rows) (sym new.2)
    (subst (λ (t : ℕ). IsTimelyEvent number behind rows (event_of by seq t new.0)) moment (entry_timely number by seq behind rows new.0))

pub accepted_takes : (by seq t n : ℕ) (decisions : List Decision) (parts : List History) → length parts ≡ n → AllByRecursion (IsFair n) decisions
    → NewEvents parts (accept_all by seq t decisions parts).1 TakesNobody
accepted_takes by seq t n decisions parts size fair part place event e past =
    let new = accepted_new by seq t n (λ entry. Unit {0}) decisions parts size fair (leaves_any decisions) part place event e past in
    subst TakesNobody (sym new.2) (entry_takes by seq t new.0)

-- and looks are so at any moment
pub looks_timely : (number by seq t n : ℕ) (clock : List ClockEvent) (rows : List (List Point)) (ps : List ℕ) (parts : List History) → length parts ≡ n → AllByRecursion (IsFair n) (look_decisions ps)
    → NewEvents parts (accept_all by seq t (look_decisions ps) parts).1 (IsTimelyEvent number clock rows)
looks_timely number by seq t n clock rows ps parts size fair part place event e past =
    let new = accepted_new by seq t n (λ entry. entry ≡ Looked) (look_decisions ps) parts size fair (leaves_looks ps) part place event e past in
    subst (IsTimelyEvent number clock rows) (sym new.2) (subst (λ (entry : Entry). IsTimelyEvent number clock rows (event_of by seq t entry)) (sym new.1) tt)
