-- Which entries are a pass's own: each that names the pass is exactly one point of the call that it names, each point of a call is an
-- entry of it, and along the calls the places in each single history rise. A replica that a pass took out is the entry of no call.
use Rattle.std.specs.Prelude.{ℕ, ◌≡◌, ◌≢◌, ◌<◌, List, ◌++◌, length, count_by, Option, Some, slice_get}
use Rattle.std.specs.List.{AllByRecursion, flat_map}
use Rattle.std.specs.List.Sorted.{IsStrictlyIncreasing}
use Rattle.partlog.specs.declared.clock_event.ClockEvent.{ClockEvent}
use Rattle.partlog.specs.declared.event.PartEvent.{PartEvent}
use Rattle.partlog.specs.History.{History}
use Rattle.audit.specs.declared.account.Point.{Point}
use Rattle.audit.specs.Histories.{Owner, clock_owner_of}
use Rattle.audit.specs.IsLawful.{is_point, places_in}
use Rattle.audit.specs.broker.GoesOn.{Longer, the_owner}
use Rattle.audit.specs.broker.Kept.{owners_at}
use Rattle.audit.specs.broker.Timely.{events_at, pass_of}

-- the owners of each history, and the points of the pass's calls, one list a call
pub record AreOwn (owners : ℕ → List (Option Owner)) (number : ℕ) (rows : List (List Point)) : Type 0 where
  pub left : (part place seq : ℕ) → slice_get (owners part) place ≡ Some (the_owner number seq)
      → (points : List Point) × (slice_get rows seq ≡ Some points) × (count_by (is_point part place) points ≡ 1)
  pub points : (seq : ℕ) (points : List Point) → slice_get rows seq ≡ Some points
      → AllByRecursion (λ point. slice_get (owners point.part) point.place ≡ Some (the_owner number seq)) points
  pub order : (part : ℕ) → IsStrictlyIncreasing (places_in part (flat_map (λ points. points) rows))

-- in the later histories no entry of this pass stands behind what it saw
pub record OwnWithin (number : ℕ) (parts : List History) (clock : List ClockEvent)
    (later : List History) (behind : List ClockEvent) : Type 0 where
  -- none that a call of it left
  pub calls : (part place seq : ℕ) → slice_get (owners_at later behind part) place ≡ Some (the_owner number seq)
      → place < length (owners_at parts clock part)
  -- nor one by which it took a replica out
  pub entries : (part place : ℕ) (event : PartEvent) → slice_get (events_at later part) place ≡ Some event → pass_of event ≡ number
      → place < length (events_at parts part)

-- it isn't of a call of this pass
abbrev pub NotOf : ℕ → Option Owner → Type 0
NotOf number owner = (seq : ℕ) → owner ≡ the_owner number seq → ⊥

-- histories go on, and what came is others' alone
pub record OthersAlone (number : ℕ) (parts : List History) (clock : List ClockEvent)
    (later : List History) (behind : List ClockEvent) : Type 0 where
  pub each : (p : ℕ) (h : History) → slice_get parts p ≡ Some h
      → (l : History) × (slice_get later p ≡ Some l) × (longer : Longer h l)
      × AllByRecursion (λ event. pass_of event ≢ number) longer.more
  pub more : List ClockEvent
  pub events : behind ≡ clock ++ more
  pub others : AllByRecursion (λ event. NotOf number (clock_owner_of event)) more
