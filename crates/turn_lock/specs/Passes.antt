-- What passes know, at the start and later.
use Rattle.std.specs.Prelude.{◌≡◌, ℕ, zero, suc, ◌+◌, ◌^◌, ◌<◌, List, [], ◌∷◌, ◌++◌, length, drop, Option, None}
use Rattle.atomic_table.specs.declared.shared.Seat.{Seat}
use Rattle.turn_lock.specs.declared.known.Known.{Known}
use Rattle.turn_lock.specs.declared.known.Stage.{Stage}
use Rattle.turn_lock.specs.declared.known.Stage.TheVariants.{Idle, Has}

module _ {E : Type 0} where
  -- a pass that has seen nothing and added nothing
  abbrev pub fresh : List ℕ → ℕ → Known E
  fresh name number = record { number = number; name = name; seen = []; mine = []; stage = Idle }

  -- so many of them, with the numbers from the first one on
  abbrev pub fresh_from : List ℕ → ℕ → ℕ → List (Known E)
  fresh_from name first zero = []
  fresh_from name first (suc n) = fresh name first ∷ fresh_from name (first + 1) n

  -- the same pass at another stage
  abbrev pub at_stage : Stage → Known E → Known E
  at_stage stage k = record { number = k.number; name = k.name; seen = k.seen; mine = k.mine; stage = stage }

  -- what a pass knows that has the turn of this ticket, and found this value
  abbrev pub begun : {T : Type 0} → (T → List E) → ℕ → T → Known E → Known E
  begun entries ticket x k = record { number = k.number; name = k.name; seen = entries x; mine = k.mine; stage = Has ticket }

  -- what a pass knows that ended its turn with this value: the end of the history is its own
  abbrev pub ended : {T : Type 0} → (T → List E) → T → Known E → Known E
  ended entries x k = record { number = k.number; name = k.name; seen = entries x; mine = k.mine ++ drop (length k.seen) (entries x); stage = Idle }

  -- the first of a list, or k
  abbrev pub head_or : Known E → List (Known E) → Known E
  head_or k [] = k
  head_or k (j ∷ js) = j

  -- what is known by the one pass that a view has
  abbrev pub known_of : List (Known E) → Known E
  known_of view = head_or (fresh [] 0) view

  -- a seat that has the turn of this ticket, whose value is out of the slot
  abbrev pub IsOut : {T : Type 0} → Seat (Option T) (List (Known E)) → ℕ → Type 0
  IsOut seat ticket = (seat.me ≡ (at_stage (Has ticket) (known_of seat.me.0) ∷ [], (0, None) ∷ [])) × (ticket < 2 ^ 62)
