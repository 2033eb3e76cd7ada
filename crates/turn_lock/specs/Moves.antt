-- What each step on the table tells. A step is made by the seat of one pass.
use Rattle.std.specs.Prelude.{◌≡◌, ℕ, ◌^◌, List, [], ◌∷◌, Option, Some, if◌then◌else◌, nat_lt, ◌==◌, MatchBool}
use Rattle.atomic_table.specs.Table.{Me, Step}
use Rattle.turn_lock.specs.declared.known.Known.{Known}
use Rattle.turn_lock.specs.declared.known.Stage.{Stage}
use Rattle.turn_lock.specs.declared.known.Stage.TheVariants.{Waits, Late}
use Rattle.turn_lock.specs.StartsWith.{StartsWith}
use Rattle.turn_lock.specs.OfPass.{of_pass}
use Rattle.turn_lock.specs.Passes.{at_stage, begun, ended}

abbrev Sat : Type 0 → Type 0 → Type 0
Sat T E = Me (Option T) (List (Known E))

-- where a pass stands that drew this ticket
abbrev pub stage_of : ℕ → Stage
stage_of ticket = if nat_lt ticket (2 ^ 62) then Waits ticket else Late

module _ {T E : Type 0} where
  -- the pass drew the ticket that was found
  abbrev pub drew : Step (Option T) → Sat T E → ℕ → Sat T E → Type 0
  drew st m found m' = (k : Known E) → m ≡ (k ∷ [], []) → m' ≡ (at_stage (stage_of found) k ∷ [], [])

module _ {T E : Type 0} (entries : T → List E) where
  -- the pass put this value back and passed its turn on
  abbrev pub passed_on : Step (Option T) → Sat T E → ℕ → Sat T E → Type 0
  passed_on st m found m' = (k : Known E) (x : T) → m ≡ (k ∷ [], (0, Some x) ∷ []) → m' ≡ (ended entries x k ∷ [], [])

  module _ (by : E → ℕ) (name_of : T → List ℕ) where
    -- the value has the lock's name, its history begins with what the pass had seen, and has the pass's own entries and no more of it
    pub record Took (ticket : ℕ) (k : Known E) (m : Sat T E) : Type 0 where
      pub value : T
      pub now : m ≡ (begun entries ticket value k ∷ [], (0, Some value) ∷ [])
      pub named : name_of value ≡ k.name
      pub seen : StartsWith (entries value) k.seen
      pub mine : of_pass by k.number (entries value) ≡ k.mine

    -- where the ticket that is served was the pass's own, the pass took the value; else nothing changed
    abbrev pub looked : Step (Option T) → Sat T E → ℕ → Sat T E → Type 0
    looked st m found m' = (k : Known E) (ticket : ℕ) → m ≡ (k ∷ [], []) → k.stage ≡ Waits ticket → MatchBool (found == ticket) (Took ticket k m') (m' ≡ m)
