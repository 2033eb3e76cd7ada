-- A pass took followers out of the in-sync set: no call of it did so, and it left nothing else.
use Rattle.std.specs.Prelude.{ℕ, ℤ, ◌≡◌, ◌≤◌, List, length, Some, slice_get}
use Rattle.partlog.specs.declared.event.PartEvent.{PartEvent}
use Rattle.partlog.specs.declared.event.PartEvent.TheVariants.{Shrink}
use Rattle.partlog.specs.History.{History}
use Rattle.audit.specs.broker.GoesOn.{AllLonger}
use Rattle.audit.specs.broker.Timely.{events_at, pass_of}

pub record HasTakenOut (number t : ℕ) (parts later : List History) : Type 0 where
  -- the histories go on
  pub grown : AllLonger parts later
  -- each entry of this pass behind what it had seen takes a replica out at this moment
  pub taken : (part place : ℕ) (event : PartEvent) → slice_get (events_at later part) place ≡ Some event → pass_of event ≡ number
      → length (events_at parts part) ≤ place → (replica : ℤ) × (event ≡ Shrink number replica t)
