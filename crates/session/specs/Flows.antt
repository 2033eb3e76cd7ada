-- What a clause sees of a link, and what flowed over it.
use Rattle.std.specs.Prelude.{◌≡◌, ◌≤◌, ◌↔◌, ℕ, Bool, true, List, [], Option, Some, None, ⊤}
use Rattle.std.specs.Io.KnownBytes.{Appends, Consumes}
use Rattle.outside.specs.Alike.{ShowsAlike}

-- the bytes that were taken from it, that are left and that were written to it, where it reports them, and how often it has failed
pub record LinkView : Type 0 where
  pub taken : Option (List ℕ)
  pub left : Option (List ℕ)
  pub written : Option (List ℕ)
  pub faults : ℕ

abbrev pub link_of : Option (List ℕ) → Option (List ℕ) → Option (List ℕ) → ℕ → LinkView
link_of taken left written faults = record { taken = taken; left = left; written = written; faults = faults }

-- it goes on showing what it showed, and nothing else
pub record IsShownAlike (old new : LinkView) : Type 0 where
  pub taken : ShowsAlike old.taken new.taken
  pub left : ShowsAlike old.left new.left
  pub written : ShowsAlike old.written new.written

-- these bytes were read from it, and these were written to it
pub record HasFlowed (input output : List ℕ) (old new : LinkView) : Type 0 where
  pub taken : Appends old.taken new.taken input
  pub left : Consumes old.left new.left input
  pub written : Appends old.written new.written output
  pub later : old.faults ≤ new.faults
  pub alike : IsShownAlike old new

-- whether the input has ended: where the link reports what is left, exactly where that is nothing
abbrev pub HasEndedSo : Option (List ℕ) → Bool → Type 0
HasEndedSo None ended = ⊤
HasEndedSo (Some left) ended = (ended ≡ true) ↔ (left ≡ [])
