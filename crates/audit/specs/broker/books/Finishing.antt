-- A call that was delayed comes to its end: it is won, and looks at the partitions of its operation, one after the other.
use Rattle.std.specs.Prelude.{ℕ, ◌≡◌, List, [], ◌∷◌, ◌++◌, length, map, take, Option, Some, None, option_to_list, slice_set}
use Rattle.std.specs.List.{AllZip}
use Rattle.partlog.specs.declared.clock_event.ClockEvent.TheVariants as clocks
use Rattle.partlog.specs.Moment.{moment_of}
use Rattle.partlog.specs.State.{PartState as State}
use Rattle.audit.specs.declared.account.Point.{Point}
use Rattle.audit.specs.Histories.{at_point, clock_part, moment_at, no_state}
use Rattle.audit.specs.LawfulCall.{Step, IsClockLook, IsLook, by_part, operation_parts, part_in}
use Rattle.kanswer.specs.Decisions.{Looked}
use Rattle.kanswer.specs.Waiting.{Shown, values_of}
use Rattle.opcond.specs.Tally.{IsOverdue, IsSatisfied}
use Rattle.audit.specs.broker.Board.{Waiting, history_at}
use Rattle.kanswer.specs.WithEntry.{entered}
use Rattle.audit.specs.broker.GoesOn.{Carried}
use Rattle.audit.specs.broker.Sound.{AllBelow, IsDelayedAs}
use Rattle.audit.specs.broker.books.Underway.{Underway, IsUnderway, seq_of}

-- the call was accepted whole, and became this operation
pub record IsDelayed (u : Underway) (w : Waiting) : Type 0 where
  pub underway : IsUnderway u
  pub delayed : Carried u.config u.parts u.clock (IsDelayedAs w u.call)
  pub within : AllBelow (length u.parts) (operation_parts w.steps)
  pub own : w.session ≡ u.number

-- what became of each named partition, with these states of those of the operation, as far as they go
abbrev pub shown_with : List Step → List State → List Shown
shown_with [] states = []
shown_with (step ∷ steps) [] = record { result = step.result; state = no_state } ∷ shown_with steps []
shown_with (step ∷ steps) (state ∷ states) =
    by_part (part_in step.result)
    (record { result = step.result; state = no_state } ∷ shown_with steps (state ∷ states))
    (record { result = step.result; state = state } ∷ shown_with steps states)

-- the states at all its looks satisfy it; or it looked at the clock first, whose moment there is at least its deadline
abbrev pub IsDue : Underway → Waiting → Option Point → List State → Type 0
IsDue u w None states =
    length states ≡ length (operation_parts w.steps) → IsSatisfied w.operation (values_of w.request.ask (shown_with w.steps states))
IsDue u w (Some late) states =
    Carried u.config u.parts u.clock (λ account. IsClockLook account late × IsOverdue w.operation (moment_at account late))

-- The looks at the first so many partitions of the operation are left, and these states were seen there. Where it expired the look at
-- the clock comes before them.
pub record IsFinishing (u : Underway) (w : Waiting) (late : Option Point) (states : List State) : Type 0 where
  pub delayed : IsDelayed u w
  pub looks : List Point
  pub finish : u.call.finish ≡ option_to_list late ++ looks
  pub each : Carried u.config u.parts u.clock (λ account. AllZip (IsLook account) (take (length states) (operation_parts w.steps)) looks)
  pub seen : Carried u.config u.parts u.clock (λ account. map (at_point account) looks ≡ states)
  pub due : IsDue u w late states

-- the clock is looked at
abbrev pub late_seen : Underway → Underway
late_seen u = record u {
  clock = u.clock ++ clocks.Look u.number (seq_of u) ∷ [];
  call = record u.call { finish = u.call.finish ++ record { part = clock_part; place = length u.clock } ∷ [] };
}

-- this partition is looked at
abbrev pub part_seen : Underway → ℕ → Underway
part_seen u part = record u {
  parts = slice_set u.parts part (entered (history_at u.parts part) u.number (seq_of u) (moment_of u.clock) Looked);
  call = record u.call { finish = u.call.finish ++ record { part = part; place = length (history_at u.parts part).events } ∷ [] };
}
