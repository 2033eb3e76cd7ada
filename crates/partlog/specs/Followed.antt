-- A log that a follower fetched from at a moment: one entry more, and nothing else.
use Rattle.std.specs.Prelude.{ℕ, ℤ, [], ◌∷◌, ◌++◌}
use Rattle.partlog.specs.declared.event.PartEvent.TheVariants.{Follow}
use Rattle.partlog.specs.History.{History}

abbrev pub followed : History → ℕ → ℕ → ℤ → ℕ → ℕ → History
followed h by seq replica offset t = record h { events = h.events ++ Follow by seq replica offset t ∷ [] }
