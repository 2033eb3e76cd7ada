-- What a shared port and its passes are to contracts.
use Rattle.std.specs.Prelude.{◌≡◌, ℕ, List}
use Rattle.atomic_table.specs.Seated.{TableId}
use Rattle.outside.specs.declared.shared.port.port_entry.PortEntry.{PortEntry}
use Rattle.outside.specs.shared.port.History.{Terms}

-- a shared port: which one it is, how many passes it has, and the terms on which it is shared
pub record PortView : Type 0 where
  pub id : TableId
  pub passes : ℕ
  pub terms : Terms

-- A pass: the shared port with which it was made and its terms, and its number. And the history as it saw it last, and the entries that it
-- made itself.
pub record PassView (L : Type 0) : Type 0 where
  pub made : TableId
  pub terms : Terms
  pub number : ℕ
  pub seen : List (PortEntry L)
  pub own : List (PortEntry L)

-- the pass was made with this shared port
abbrev pub IsPassOf : {L : Type 0} → PortView → PassView L → Type 0
IsPassOf port pass = (pass.made ≡ port.id) × (pass.terms ≡ port.terms)
