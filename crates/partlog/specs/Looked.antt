-- A log that a call looked at: one entry more, and nothing else.
use Rattle.std.specs.Prelude.{ℕ, [], ◌∷◌, ◌++◌}
use Rattle.partlog.specs.declared.event.PartEvent.TheVariants.{Look}
use Rattle.partlog.specs.History.{History}

abbrev pub looked : History → ℕ → ℕ → History
looked h by seq = record h { events = h.events ++ Look by seq ∷ [] }
