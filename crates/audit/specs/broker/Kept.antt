-- Who left the entries of the histories: each is exactly one point of the call that it names, each point is an entry of its call,
-- and along the calls of a pass the places in each single history rise.
use Rattle.std.specs.Prelude.{ℕ, ◌≡◌, List, [], map, count_by, ◌==◌, if◌then◌else◌, Option, Some, None, slice_get}
use Rattle.std.specs.List.{AllByRecursion, flat_map}
use Rattle.std.specs.List.Sorted.{IsStrictlyIncreasing}
use Rattle.partlog.specs.declared.clock_event.ClockEvent.{ClockEvent}
use Rattle.partlog.specs.History.{History}
use Rattle.audit.specs.declared.account.Point.{Point}
use Rattle.audit.specs.Histories.{Owner, owner_of, clock_owner_of, clock_part}
use Rattle.audit.specs.IsLawful.{places_in, is_point}
use Rattle.audit.specs.broker.GoesOn.{the_owner}

abbrev pub owners_here : Option History → List (Option Owner)
owners_here None = []
owners_here (Some h) = map owner_of h.events

-- of the partitions' histories and the clock's, by their numbers
abbrev pub owners_at : List History → List ClockEvent → ℕ → List (Option Owner)
owners_at parts clock part = if part == clock_part then map clock_owner_of clock else owners_here (slice_get parts part)

-- the owners of each history, and for each pass the points of its calls, one list a call
pub record IsKept (owners : ℕ → List (Option Owner)) (ledger : ℕ → List (List Point)) : Type 0 where
  pub left : (part place by seq : ℕ) → slice_get (owners part) place ≡ Some (the_owner by seq)
      → (points : List Point) × (slice_get (ledger by) seq ≡ Some points) × (count_by (is_point part place) points ≡ 1)
  pub points : (by seq : ℕ) (points : List Point) → slice_get (ledger by) seq ≡ Some points
      → AllByRecursion (λ point. slice_get (owners point.part) point.place ≡ Some (the_owner by seq)) points
  pub order : (by part : ℕ) → IsStrictlyIncreasing (places_in part (flat_map (λ points. points) (ledger by)))
