-- The operation that a description's words describe.
use Rattle.std.specs.Prelude.{ℕ, List, map}
use Rattle.std.specs.List.{range_with_len}
use Rattle.opcond.specs.declared.need.Need.{Need}
use Rattle.opcond.specs.Operation.{Operation}
use Rattle.room_core.specs.Description.{needs_of, least_of, deadline_of, need_of}

abbrev pub needs_in : (ℕ → ℕ) → List Need
needs_in words = map (need_of words) (range_with_len 0 (needs_of words))

abbrev pub operation_of : (ℕ → ℕ) → Operation
operation_of words = record { needs = needs_in words; least = least_of words; deadline = deadline_of words }

-- the values of the needs' gauges, in the order of the needs
abbrev pub values_in : (ℕ → ℕ) → (ℕ → ℕ) → List ℕ
values_in words value = map (λ (need : Need). value need.gauge) (needs_in words)
