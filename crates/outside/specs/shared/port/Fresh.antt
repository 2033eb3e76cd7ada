-- The passes of a new shared port.
use Rattle.std.specs.Prelude.{ℕ, List, [], map}
use Rattle.std.specs.List.{range_with_len}
use Rattle.atomic_table.specs.Seated.{TableId}
use Rattle.outside.specs.shared.port.History.{Terms}
use Rattle.outside.specs.shared.port.PortViews.{PassView}

module _ {L : Type 0} where
  -- a pass that has seen nothing and entered nothing
  abbrev pub fresh_pass : TableId → Terms → ℕ → PassView L
  fresh_pass id terms number = record { made = id; terms = terms; number = number; seen = []; own = [] }

  -- this many, by their numbers
  abbrev pub fresh_passes : TableId → Terms → ℕ → List (PassView L)
  fresh_passes id terms passes = map (fresh_pass id terms) (range_with_len 0 passes)
