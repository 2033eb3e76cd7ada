-- What the entries of a port's history say, the first one first.
use Rattle.std.specs.Prelude.{◌≡◌, ℕ, Bool, true, false, List, [], ◌∷◌, ◌++◌, Option, Some, None}
use Rattle.std.specs.List.{filter_map, list_any}
use Rattle.std.specs.declared.snapshot.Snapshot.{Snapshot}
use Rattle.outside.specs.declared.shared.port.port_entry.PortEntry.{PortEntry}
use Rattle.outside.specs.declared.shared.port.port_entry.PortEntry.TheVariants.{Opened, Accepted, Ended, Faulted, Retired}

module _ {L : Type 0} where
  -- the pass that an entry names
  abbrev pub entered_by : PortEntry L → ℕ
  entered_by (Opened by number) = by
  entered_by (Accepted by number) = by
  entered_by (Ended by) = by
  entered_by (Faulted by) = by
  entered_by (Retired by number link) = by

  abbrev pub opened_number : PortEntry L → Option ℕ
  opened_number (Opened by number) = Some number
  opened_number other = None

  abbrev pub accepted_number : PortEntry L → Option ℕ
  accepted_number (Accepted by number) = Some number
  accepted_number other = None

  abbrev pub retired_link : PortEntry L → Option (ℕ × L)
  retired_link (Retired by number link) = Some (number, link.value)
  retired_link other = None

  abbrev pub is_end : PortEntry L → Bool
  is_end (Ended by) = true
  is_end other = false

  abbrev pub is_fault : PortEntry L → Bool
  is_fault (Faulted by) = true
  is_fault other = false

  -- the numbers with which the port was opened
  abbrev pub opened : List (PortEntry L) → List ℕ
  opened entries = filter_map opened_number entries

  -- the numbers of the links that it gave
  abbrev pub accepted : List (PortEntry L) → List ℕ
  accepted entries = filter_map accepted_number entries

  -- the links that it took back, with their numbers
  abbrev pub retired : List (PortEntry L) → List (ℕ × L)
  retired entries = filter_map retired_link entries

  -- it answered that no more links come
  abbrev pub has_ended : List (PortEntry L) → Bool
  has_ended entries = list_any is_end entries

  -- an open or an accept failed
  abbrev pub has_faulted : List (PortEntry L) → Bool
  has_faulted entries = list_any is_fault entries

  -- the later history has one entry more: this pass handed this link back under this number
  abbrev pub HasRetired : ℕ → ℕ → L → List (PortEntry L) → List (PortEntry L) → Type 0
  HasRetired by number link before after = (kept : Snapshot L) × (kept.value ≡ link) × (after ≡ before ++ Retired by number kept ∷ [])
