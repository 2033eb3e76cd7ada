-- What accepting a request does to the histories: each partition whose log is asked gets its entry, one after the other.
use Rattle.std.specs.Prelude.{ℕ, List, [], ◌∷◌, ◌++◌, length, map, slice_set, Some, None}
use Rattle.partlog.specs.History.{History}
use Rattle.partlog.specs.State.{PartState as State, state_of}
use Rattle.kanswer.specs.declared.accepted.Accepted.TheVariants.{Refused}
use Rattle.kanswer.specs.Decisions.{Decision, Refuse, AskLog}
use Rattle.kanswer.specs.WithEntry.{entered}
use Rattle.kanswer.specs.Waiting.{Shown}
use Rattle.audit.specs.Histories.{no_state}
use Rattle.audit.specs.LawfulCall.{Step}
use Rattle.audit.specs.broker.Board.{history_at}

-- what became of a named partition, with the state just after its entry
pub record Noted : Type 0 where
  pub step : Step
  pub state : State

-- the decisions are carried out in order at this moment, each on the histories that those before it left
abbrev pub accept_all : ℕ → ℕ → ℕ → List Decision → List History → List Noted × List History
accept_all by seq t [] parts = ([], parts)
accept_all by seq t (Refuse code ∷ decisions) parts =
    let rest = accept_all by seq t decisions parts in
    (record { step = record { result = Refused code; point = None }; state = no_state } ∷ rest.0, rest.1)
accept_all by seq t (AskLog part outcome ∷ decisions) parts =
    let found = history_at parts part in
    let came = outcome (state_of found) in
    let left = entered found by seq t came.entry in
    let rest = accept_all by seq t decisions (slice_set parts part left) in
    (record { step = record { result = came.result; point = Some (record { part = part; place = length found.events }) }; state = state_of left } ∷ rest.0, rest.1)

abbrev pub steps_of : List Noted → List Step
steps_of noted = map (λ n. n.step) noted

abbrev pub shown_of : List Noted → List Shown
shown_of noted = map (λ n. record { result = n.step.result; state = n.state }) noted
