-- What a clause sees of a link, and what flowed over it.
use Rattle.std.specs.Prelude.{◌≤◌, ℕ, List, Option}
use Rattle.std.specs.Io.KnownBytes.{Appends, Consumes}

-- the bytes that were taken from it, that are left and that were written to it, where it reports them, and how often it has failed
pub record LinkView : Type 0 where
  pub taken : Option (List ℕ)
  pub left : Option (List ℕ)
  pub written : Option (List ℕ)
  pub faults : ℕ

abbrev pub link_of : Option (List ℕ) → Option (List ℕ) → Option (List ℕ) → ℕ → LinkView
link_of taken left written faults = record { taken = taken; left = left; written = written; faults = faults }

-- these bytes were read from it, and these were written to it
pub record HasFlowed (input output : List ℕ) (old new : LinkView) : Type 0 where
  pub taken : Appends old.taken new.taken input
  pub left : Consumes old.left new.left input
  pub written : Appends old.written new.written output
  pub later : old.faults ≤ new.faults

-- the same, by the meanings of a link's trait
abbrev pub link_by : {L : Type 0} → (L → Option (List ℕ)) → (L → Option (List ℕ)) → (L → Option (List ℕ)) → (L → ℕ) → L → LinkView
link_by taken left written faults link = link_of (taken link) (left link) (written link) (faults link)
