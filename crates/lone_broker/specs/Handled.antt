-- A request was handled: it was decided and entered the histories, and was answered at once or waits.
use Rattle.std.specs.Prelude.{ℕ, ◌≡◌, List, [], ◌∷◌, ◌++◌, length, Some, None, MatchBool}
use Rattle.partlog.specs.declared.clock_event.ClockEvent.{ClockEvent}
use Rattle.partlog.specs.declared.clock_event.ClockEvent.TheVariants as clocks
use Rattle.partlog.specs.History.{History}
use Rattle.partlog.specs.Moment.{moment_of}
use Rattle.audit.specs.declared.account.CallHow.TheVariants.{Parked as Waits}
use Rattle.audit.specs.Histories.{clock_part}
use Rattle.audit.specs.LawfulCall.{step_points}
use Rattle.kwire.specs.declared.request.Request.{Request}
use Rattle.kwire.specs.Configuration.{Configuration}
use Rattle.kanswer.specs.Decisions.{Decision, Decides}
use Rattle.kanswer.specs.Results.{AreResults}
use Rattle.kanswer.specs.Waiting.{becomes_delayed, operation_of, results_of}
use Rattle.audit.specs.broker.Entering.{Noted, accept_all, shown_of, steps_of}
use Rattle.audit.specs.broker.Turns.{how_at_once, text_at_once}
use Rattle.lone_broker.specs.declared.handling.Handled.{Handled}

abbrev pub looked_by : ℕ → ℕ → List ClockEvent → List ClockEvent
looked_by by seq clock = clock ++ clocks.Look by seq ∷ []

-- it needn't wait
pub record IsAnswered (config : Configuration) (by : ℕ) (request : Request) (noted : List Noted) (clock later : List ClockEvent) (handled : Handled) (text more : List ℕ) : Type 0 where
  pub still : later ≡ clock
  pub points : handled.accept ≡ step_points (steps_of noted)
  pub how : handled.how ≡ how_at_once request.ask
  pub none : handled.parked ≡ None
  pub printed : more ≡ text ++ text_at_once config by request (shown_of noted)

-- it waits, and this became of each partition that it names
pub record IsParked (by seq : ℕ) (request : Request) (noted : List Noted) (clock later : List ClockEvent) (handled : Handled) (text more : List ℕ) : Type 0 where
  pub looked : later ≡ looked_by by seq clock
  pub points : handled.accept ≡ step_points (steps_of noted) ++ record { part = clock_part; place = length clock } ∷ []
  pub how : handled.how ≡ Waits
  pub some : handled.parked ≡ Some (record {
    accepted = results_of (shown_of noted);
    op = operation_of request.ask (results_of (shown_of noted)) (moment_of later);
  })
  pub printed : more ≡ text
  pub listed : AreResults request.ask (results_of (shown_of noted))

-- by the call of this number of a session, at the clock's moment
pub record IsHandled (config : Configuration) (by seq : ℕ) (request : Request) (before after : List History) (clock later : List ClockEvent) (handled : Handled) (text more : List ℕ) : Type 0 where
  pub decisions : List Decision
  pub decided : Decides config request.ask decisions
  pub histories : after ≡ (accept_all by seq (moment_of clock) decisions before).1
  pub became : MatchBool (becomes_delayed request.ask (shown_of (accept_all by seq (moment_of clock) decisions before).0))
      (IsParked by seq request (accept_all by seq (moment_of clock) decisions before).0 clock later handled text more)
      (IsAnswered config by request (accept_all by seq (moment_of clock) decisions before).0 clock later handled text more)
