-- A call is accepted: what was decided of it is carried out, one partition after the other.
use Rattle.std.specs.Prelude.{ℕ, ◌≡◌, List, [], ◌∷◌, ◌++◌, length, take}
use Rattle.std.specs.List.{AllZip}
use Rattle.partlog.specs.declared.clock_event.ClockEvent.TheVariants as clocks
use Rattle.partlog.specs.Moment.{moment_of}
use Rattle.audit.specs.Histories.{clock_part}
use Rattle.audit.specs.LawfulCall.{IsStep, operation_parts, shown_as_accepted, step_points}
use Rattle.kanswer.specs.Decisions.{Decision, Decides}
use Rattle.kanswer.specs.Waiting.{operation_of, results_of}
use Rattle.kwire.specs.IsRequest.{IsRequest}
use Rattle.kwire.specs.declared.request.Request.{Request}
use Rattle.audit.specs.broker.Board.{Waiting}
use Rattle.audit.specs.broker.Entering.{Noted, accept_all, shown_of, steps_of}
use Rattle.audit.specs.broker.GoesOn.{Carried}
use Rattle.audit.specs.broker.Sound.{AllBelow}
use Rattle.audit.specs.broker.books.Underway.{Underway, IsUnderway, seq_of}

-- The first so many of the decisions are carried out, and this is what became of their partitions: in every account that goes on each
-- is what its own entry found, and the call's points are those of these entries.
pub record IsAccepting (u : Underway) (request : Request) (decisions : List Decision) (reached : ℕ) (noted : List Noted) : Type 0 where
  pub underway : IsUnderway u
  pub asked : IsRequest u.call.frame request
  pub decided : Decides u.config request.ask decisions
  pub each : Carried u.config u.parts u.clock (λ account. AllZip (IsStep account) (take reached decisions) (steps_of noted))
  pub shown : Carried u.config u.parts u.clock (λ account. shown_as_accepted account (steps_of noted) ≡ shown_of noted)
  pub points : u.call.accept ≡ step_points (steps_of noted)
  pub unfinished : u.call.finish ≡ []
  pub within : AllBelow (length u.parts) (operation_parts (steps_of noted))

-- one decision more is carried out: an entry of the partition whose log is asked and its point, or nothing where it is refused
abbrev pub noted_next : Underway → Decision → List Noted
noted_next u decision = (accept_all u.number (seq_of u) (moment_of u.clock) (decision ∷ []) u.parts).0

abbrev pub carried_out : Underway → Decision → Underway
carried_out u decision = record u {
  parts = (accept_all u.number (seq_of u) (moment_of u.clock) (decision ∷ []) u.parts).1;
  call = record u.call { accept = u.call.accept ++ step_points (steps_of (noted_next u decision)) };
}

-- the clock is looked at, as the last entry of the acceptance
abbrev pub clock_seen : Underway → Underway
clock_seen u = record u {
  clock = u.clock ++ clocks.Look u.number (seq_of u) ∷ [];
  call = record u.call { accept = u.call.accept ++ record { part = clock_part; place = length u.clock } ∷ [] };
}

-- the request that waits then, from the moment there
abbrev pub left_waiting : Underway → Request → List Noted → Waiting
left_waiting u request noted = record {
  session = u.number;
  request = request;
  steps = steps_of noted;
  operation = operation_of request.ask (results_of (shown_of noted)) (moment_of (clock_seen u).clock);
}
