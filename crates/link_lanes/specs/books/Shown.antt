-- What a clause sees of a link that was served.
use Rattle.std.specs.Prelude.{ℕ, Bool, List, Option}

-- the bytes that were taken from it, that are left and that were written to it, where it shows them; how often it has failed, and whether it was shut
pub record ShownLink : Type 0 where
  pub taken : Option (List ℕ)
  pub left : Option (List ℕ)
  pub written : Option (List ℕ)
  pub faults : ℕ
  pub is_shut : Bool

abbrev pub shown_link : Option (List ℕ) → Option (List ℕ) → Option (List ℕ) → ℕ → Bool → ShownLink
shown_link taken left written faults is_shut = record { taken = taken; left = left; written = written; faults = faults; is_shut = is_shut }
