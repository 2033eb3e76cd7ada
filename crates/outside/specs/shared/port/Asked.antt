-- What the answers of a shared port tell, and what a pass is after it asked.
use Rattle.std.specs.Prelude.{◌≡◌, ◌<◌, ℕ, ◌+◌, true, false, List, [], ◌∷◌, ◌++◌, cond, length, ⊤}
use Rattle.std.specs.List.{range_with_len}
use Rattle.std.specs.declared.snapshot.Snapshot.{Snapshot}
use Rattle.turn_lock.specs.StartsWith.{StartsWith}
use Rattle.outside.specs.declared.shared.port.accepting.Accepting.{Accepting}
use Rattle.outside.specs.declared.shared.port.accepting.Accepting.TheVariants as accepting
use Rattle.outside.specs.declared.shared.port.opening.Opening.{Opening}
use Rattle.outside.specs.declared.shared.port.opening.Opening.TheVariants as opening
use Rattle.outside.specs.declared.shared.port.port_entry.PortEntry.{PortEntry}
use Rattle.outside.specs.declared.shared.port.port_entry.PortEntry.TheVariants.{Opened, Accepted, Ended, Faulted, Retired}
use Rattle.outside.specs.shared.port.Entries.{accepted, has_ended, has_faulted}
use Rattle.outside.specs.shared.port.PortViews.{PassView}

module _ {L : Type 0} where
  -- what an opening enters
  abbrev pub open_entries : Opening → ℕ → ℕ → List (PortEntry L)
  open_entries opening.Opened by number = Opened by number ∷ []
  open_entries opening.Faulted by number = Faulted by ∷ []
  open_entries opening.NoMemory by number = []

  -- what an accept enters: the link, or the end or the fault where none is entered yet
  abbrev pub accept_entries : Accepting L → ℕ → List (PortEntry L) → List (PortEntry L)
  accept_entries (accepting.Link number link) by found = Accepted by number ∷ []
  accept_entries accepting.Full by found = []
  accept_entries accepting.Ended by found = cond (has_ended found) [] (Ended by ∷ [])
  accept_entries accepting.Faulted by found = cond (has_faulted found) [] (Faulted by ∷ [])
  accept_entries accepting.NoMemory by found = []

  -- The history with which an accept answers so. A link has the number of those before it; the other answers come for the first of these
  -- causes that there is: as many links were given as may be, the port has ended, it has failed, or memory ran out.
  abbrev pub IsAnswer : ℕ → Accepting L → List (PortEntry L) → Type 0
  IsAnswer most (accepting.Link number link) entries = (number < most) × (accepted entries ≡ range_with_len 0 (number + 1)) × (has_ended entries ≡ false) × (has_faulted entries ≡ false)
  IsAnswer most accepting.Full entries = accepted entries ≡ range_with_len 0 most
  IsAnswer most accepting.Ended entries = (length (accepted entries) < most) × (has_ended entries ≡ true)
  IsAnswer most accepting.Faulted entries = (length (accepted entries) < most) × (has_ended entries ≡ false) × (has_faulted entries ≡ true)
  IsAnswer most accepting.NoMemory entries = (length (accepted entries) < most) × (has_ended entries ≡ false) × (has_faulted entries ≡ false)

  -- the answer is a link that is such
  abbrev pub IfLink : Accepting L → (L → Type 0) → Type 0
  IfLink (accepting.Link number link) such = such link
  IfLink other such = ⊤

  -- The pass found a history that begins with what it had seen, and entered at its end what this says. So it has seen that, and those entries
  -- are its own.
  pub record HasEntered (entered : List (PortEntry L) → List (PortEntry L)) (before after : PassView L) : Type 0 where
    pub found : List (PortEntry L)
    pub goes_on : StartsWith found before.seen
    pub after_is : after ≡ record {
      made = before.made;
      terms = before.terms;
      number = before.number;
      seen = found ++ entered found;
      own = before.own ++ entered found;
    }

  -- the pass handed this link back under this number, and entered that
  abbrev pub HasHandedBack : ℕ → L → PassView L → PassView L → Type 0
  HasHandedBack number link before after = (kept : Snapshot L) × (kept.value ≡ link) × HasEntered (λ found. Retired before.number number kept ∷ []) before after
