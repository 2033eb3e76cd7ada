-- The history at the close.
use Rattle.std.specs.Prelude.{◌≡◌, ◌<◌, ◌==◌, ℕ, List, All, count_by}
use Rattle.turn_lock.specs.OfPass.{of_pass}
use Rattle.turn_lock.specs.StartsWith.{StartsWith}
use Rattle.outside.specs.declared.shared.port.port_entry.PortEntry.{PortEntry}
use Rattle.outside.specs.shared.port.Entries.{entered_by}
use Rattle.outside.specs.shared.port.History.{IsHistory, PortFacts}
use Rattle.outside.specs.shared.port.PortViews.{PassView, PortView}

-- There is one history, which begins with what each pass has seen. It has each pass's own entries in its order, and no others. The passes are
-- all that there are, each once. And the port is as the history says.
pub record IsClosed {L : Type 0} (shared : PortView) (port : PortFacts L) (passes : List (PassView L)) : Type 0 where
  pub entries : List (PortEntry L)
  pub history : IsHistory shared.terms port entries
  pub seen : All (λ pass. StartsWith entries pass.seen) passes
  pub own : All (λ pass. of_pass entered_by pass.number entries ≡ pass.own) passes
  pub whose : All (λ entry. entered_by entry < shared.passes) entries
  pub once : (number : ℕ) → number < shared.passes → count_by (λ pass. pass.number == number) passes ≡ 1
