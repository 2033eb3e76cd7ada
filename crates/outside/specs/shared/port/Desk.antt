-- What is behind the lock of a shared port.
use Rattle.std.specs.Prelude.{ℕ, List, [], ◌∷◌}
use Rattle.outside.specs.declared.shared.port.port_entry.PortEntry.{PortEntry}
use Rattle.outside.specs.shared.port.History.{Terms}

-- the port, its history, and the terms on which it is shared
pub record Desk (P L : Type 0) : Type 0 where
  pub port : P
  pub entries : List (PortEntry L)
  pub terms : Terms

abbrev pub entries_of : {P L : Type 0} → Desk P L → List (PortEntry L)
entries_of desk = desk.entries

-- the terms as plain data
abbrev pub words_of : Terms → List ℕ
words_of terms = terms.before ∷ terms.most ∷ []

-- its name
abbrev pub name_of : {P L : Type 0} → Desk P L → List ℕ
name_of desk = words_of desk.terms
