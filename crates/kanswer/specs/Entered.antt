-- The log of a partition was asked.
use Rattle.std.specs.Prelude.{◌≡◌, ℕ, length}
use Rattle.partlog.specs.History.{History}
use Rattle.partlog.specs.State.{PartState, state_of}
use Rattle.kanswer.specs.Decisions.{Outcome}
use Rattle.kanswer.specs.LogReadings.{IsCarriable}
use Rattle.kanswer.specs.WithEntry.{entered}
use Rattle.kanswer.specs.declared.entered.Entered.{Entered}

-- The outcome comes from the state that was found. The history has its entry, which the call of this number of the pass left at the
-- moment `t`, and nothing else more; its result became of the partition; and the entry stands behind all that were there. The offsets of the result
-- are such as the wire can carry.
pub record HasEntered (by seq t : ℕ) (outcome : PartState → Outcome) (before after : History) (came : Entered) : Type 0 where
  pub history : after ≡ entered before by seq t (outcome (state_of before)).entry
  pub became : came.became ≡ (outcome (state_of before)).result
  pub place : came.place ≡ length before.events
  pub carriable : IsCarriable came.became
