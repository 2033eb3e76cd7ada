-- A whole run of the machine. An event that isn't allowed changes nothing.
use Rattle.std.specs.Prelude.{◌≡◌, ◌⊎◌, List, [], ◌∷◌}
use Rattle.room_core.specs.declared.event.CoreEvent.{CoreEvent}
use Rattle.room_core.specs.State.{State}
use Rattle.room_core.specs.Step.{IsAllowed, changed}

abbrev pub IsStep : State → CoreEvent → State → Type 0
IsStep s event next = (IsAllowed s event × (next ≡ changed s event)) ⊎ ((IsAllowed s event → ⊥) × (next ≡ s))

-- these events lead from one state to another
abbrev pub IsRun : State → List CoreEvent → State → Type 0
IsRun s [] last = last ≡ s
IsRun s (event ∷ events) last = (next : State) × IsStep s event next × IsRun next events last
