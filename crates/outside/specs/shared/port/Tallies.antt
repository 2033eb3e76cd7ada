-- What a desk has at hand of its history.
use Rattle.std.specs.Prelude.{◌≡◌, ℕ, Bool, List, length}
use Rattle.outside.specs.declared.shared.port.port_entry.PortEntry.{PortEntry}
use Rattle.outside.specs.shared.port.Entries.{has_ended, has_faulted, retired}
use Rattle.outside.specs.shared.port.History.{IsHistory, PortFacts, Terms}

pub record Tally : Type 0 where
  pub given : ℕ
  pub retired : ℕ
  pub is_ended : Bool
  pub is_faulted : Bool

-- the port and what is at hand are as the history says
pub record Keeps {L : Type 0} (terms : Terms) (port : PortFacts L) (entries : List (PortEntry L)) (tally : Tally) : Type 0 where
  pub history : IsHistory terms port entries
  pub given : tally.given ≡ port.given
  pub retired : tally.retired ≡ length (retired entries)
  pub is_ended : tally.is_ended ≡ has_ended entries
  pub is_faulted : tally.is_faulted ≡ has_faulted entries
