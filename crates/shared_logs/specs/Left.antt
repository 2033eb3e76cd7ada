-- What a call leaves behind it: of each history that it took a turn of, the pass has seen a front that ends with the call's own entry; of
-- every other one it has seen what it had seen.
use Rattle.std.specs.Prelude.{◌≡◌, ◌⊎◌, ℕ, List, [], ◌∷◌, ◌++◌}
use Rattle.partlog.specs.declared.clock_event.ClockEvent.{ClockEvent}
use Rattle.partlog.specs.declared.clock_event.ClockEvent.TheVariants as clocks
use Rattle.partlog.specs.declared.event.PartEvent.{PartEvent}
use Rattle.partlog.specs.History.{History}
use Rattle.audit.specs.Histories.{owner_of}
use Rattle.audit.specs.broker.Board.{history_at}
use Rattle.audit.specs.broker.GoesOn.{the_owner}
use Rattle.shared_logs.specs.Shared.{LogPassView}

-- the last entry is that of the pass's call of this number
pub record EndsOwn (number seq : ℕ) (h : History) : Type 0 where
  pub front : List PartEvent
  pub last : PartEvent
  pub events : h.events ≡ front ++ last ∷ []
  pub own : owner_of last ≡ the_owner number seq

pub record ClockEndsOwn (number seq : ℕ) (clock : List ClockEvent) : Type 0 where
  pub front : List ClockEvent
  pub events : clock ≡ front ++ clocks.Look number seq ∷ []

pub record AreLeft (seq : ℕ) (old new : LogPassView) : Type 0 where
  pub parts : (part : ℕ) → (history_at new.parts part ≡ history_at old.parts part) ⊎ EndsOwn old.number seq (history_at new.parts part)
  pub clock : (new.clock ≡ old.clock) ⊎ ClockEndsOwn old.number seq new.clock
