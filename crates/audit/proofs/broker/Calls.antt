-- A call is accepted, waits and is completed: what holds of it in every account that goes on from there.
use Rattle.std.proofs.Common.{◌≡◌, ℕ, ◌≤◌, Bool, true, false, cond, List, [], ◌∷◌, ◌++◌, length, refl, sym, ap, subst, ◌∙◌, append-nil}
use Rattle.std.proofs.lemmas.Bool.{leb-true}
use Rattle.std.specs.Prelude.{nat_le}
use Rattle.std.specs.List.{AllByRecursion}
use Rattle.partlog.specs.declared.clock_event.ClockEvent.{ClockEvent}
use Rattle.partlog.specs.declared.clock_event.ClockEvent.TheVariants as clocks
use Rattle.partlog.specs.History.{History}
use Rattle.partlog.specs.Moment.{moment_of}
use Rattle.audit.specs.declared.account.Account.{Account}
use Rattle.audit.specs.declared.account.Call.{Call}
use Rattle.audit.specs.declared.account.CallHow.TheVariants.{Quiet, AtOnce, Satisfied, Expired, Parked}
use Rattle.audit.specs.declared.account.Point.{Point}
use Rattle.audit.specs.Histories.{moment_at}
use Rattle.audit.specs.LawfulCall.{Step, IsAcceptance, LooksAtClock, Completes, is_delayed, operation_parts, step_points, shown_as_completed}
use Rattle.kanswer.specs.Decisions.{Decision, Decides}
use Rattle.kanswer.specs.Waiting.{Shown, becomes_delayed, is_quiet, operation_of, results_of, values_of}
use Rattle.kwire.specs.Configuration.{Configuration}
use Rattle.kwire.specs.IsRequest.{IsRequest}
use Rattle.kwire.specs.declared.request.Request.{Request}
use Rattle.opcond.specs.Operation.{Operation}
use Rattle.opcond.specs.Tally.{IsSatisfied, IsOverdue, tally}
use Rattle.audit.specs.broker.Board.{Waiting}
use Rattle.audit.specs.broker.Entering.{Noted, accept_all, steps_of, shown_of}
use Rattle.audit.specs.broker.GoesOn.{AllWhole, AllLonger, GoesOn}
use Rattle.audit.specs.broker.Turns.{how_at_once}
use Rattle.audit.proofs.broker.Cases.{either_way}
use Rattle.audit.proofs.broker.Growth.{looked_moment}
use Rattle.audit.proofs.broker.Entries.{IsFair, ShowsAccepted, accepted_shows, accepted_longer, accepted_size}
use Rattle.audit.proofs.broker.Going.{grown_parts, grown_clock, goes_back, clock_point, clock_looked, clock_moment}
use Rattle.audit.proofs.broker.Accepting.{accepted_within, look_decisions, look_points, looked, looks_fair, looks_look, looks_shown, shown_in}
pub use Rattle.audit.specs.broker.Sound.{AllBelow, IsOver, IsDone, IsDelayedAs, IsWaiting, AreDone, WaitsLast}

-- ---- accepted

pub completes : (account : Account) (request : Request) (steps : List Step) (b : Bool) → is_quiet request.ask ≡ b → is_delayed account request steps ≡ false
    → Completes account request steps [] [] (cond b Quiet AtOnce)
completes account request steps true quiet undelayed = (quiet, refl)
completes account request steps false quiet undelayed = (quiet, undelayed, refl)

module _ (config : Configuration) (parts : List History) (clock : List ClockEvent) (by seq t : ℕ) (body : List ℕ) (request : Request) (decisions : List Decision) (whole : AllWhole parts) (few : length parts ≤ 64) (asked : IsRequest body request) (decided : Decides config request.ask decisions) (fair : AllByRecursion (IsFair (length parts)) decisions) where
  abbrev noted : List Noted
  noted = (accept_all by seq t decisions parts).0

  abbrev after : List History
  after = (accept_all by seq t decisions parts).1

  -- every account shows it that goes on from there
  pub shows : (behind : List ClockEvent) (account : Account) → GoesOn config after behind account → ShowsAccepted by seq account decisions noted
  shows behind account on = accepted_shows by seq t (length parts) decisions parts account refl few whole fair on.follows

  pub acceptance : (behind : List ClockEvent) (account : Account) → GoesOn config after behind account → IsAcceptance account body request (steps_of noted)
  acceptance behind account on = record {
    asked = asked;
    decisions = decisions;
    decided = subst (λ (c : Configuration). Decides c request.ask decisions) (sym on.same) decided;
    each = (shows behind account on).steps;
  }

  pub done_at_once : becomes_delayed request.ask (shown_of noted) ≡ false
      → IsDone config after clock (record { frame = body; accept = step_points (steps_of noted); finish = []; how = how_at_once request.ask })
  done_at_once at_once = record {
    over = either_way IsOver (is_quiet request.ask) Quiet AtOnce tt tt;
    whole = λ account on.
        let undelayed : is_delayed account request (steps_of noted) ≡ false = ap (becomes_delayed request.ask) (shows clock account on).shown ∙ at_once in
        record {
          whole = record {
            request = request;
            steps = steps_of noted;
            looks = [];
            accepted = acceptance clock account on;
            entries = record {
              points = sym (append-nil (step_points (steps_of noted)));
              clock = subst (λ (b : Bool). LooksAtClock account b []) (sym undelayed) refl;
            };
          };
          completed = completes account request (steps_of noted) (is_quiet request.ask) refl undelayed;
        };
  }

  -- the clock as it was looked at
  abbrev behind : List ClockEvent
  behind = clock ++ clocks.Look by seq ∷ []

  abbrev waiting : Waiting
  waiting = record {
    session = by;
    request = request;
    steps = steps_of noted;
    operation = operation_of request.ask (results_of (shown_of noted)) (moment_of behind);
  }

  abbrev parked : Call
  parked = record { frame = body; accept = step_points (steps_of noted) ++ clock_point clock ∷ []; finish = []; how = Parked }

  parked_as : becomes_delayed request.ask (shown_of noted) ≡ true → (account : Account) → GoesOn config after behind account → IsDelayedAs waiting parked account
  parked_as waits account on =
      let shown = (shows behind account on).shown in
      let delayed : is_delayed account request (steps_of noted) ≡ true = ap (becomes_delayed request.ask) shown ∙ waits in
      record {
        accepted = acceptance behind account on;
        looks = clock_point clock ∷ [];
        entries = record {
          points = refl;
          clock = subst (λ (b : Bool). LooksAtClock account b (clock_point clock ∷ [])) (sym delayed) (clock_point clock, refl, clock_looked config after clock by seq account on);
        };
        delayed = delayed;
        operation = ap (λ (ss : List Shown). operation_of request.ask (results_of ss) (moment_at account (clock_point clock))) shown
            ∙ ap (λ (m : ℕ). operation_of request.ask (results_of (shown_of noted)) m) (clock_moment config after clock (clocks.Look by seq) account on);
      }

  pub waits_on : becomes_delayed request.ask (shown_of noted) ≡ true → IsWaiting config after behind waiting parked
  waits_on waits = record {
    delayed = parked_as waits;
    unfinished = refl;
    how = refl;
    within = subst (λ (n : ℕ). AllBelow n (operation_parts (steps_of noted))) (sym (accepted_size by seq t (length parts) decisions parts)) (accepted_within by seq t (length parts) decisions parts fair);
  }

-- ---- completed

module _ (config : Configuration) (parts : List History) (clock : List ClockEvent) (w : Waiting) (call : Call) (by seq : ℕ) (whole : AllWhole parts) (few : length parts ≤ 64) (waits : IsWaiting config parts clock w call) where
  abbrev looks : List Point
  looks = look_points by seq (operation_parts w.steps) parts

  abbrev left : List History
  left = looked by seq (operation_parts w.steps) parts

  pub left_on : AllLonger parts left
  left_on = accepted_longer by seq 0 (length parts) (look_decisions (operation_parts w.steps)) parts refl (looks_fair (length parts) (operation_parts w.steps) waits.within)

  pub done_satisfied : nat_le w.operation.least (tally w.operation.needs (values_of w.request.ask (shown_in parts w.steps))) ≡ true
      → IsDone config left clock (record call { finish = looks; how = Satisfied 0 })
  done_satisfied enough = record {
    over = refl;
    whole = λ account on.
        let d = waits.delayed account (goes_back config parts left clock clock account (grown_parts parts left clock left_on) on) in
        let shown : shown_as_completed account w.steps looks ≡ shown_in parts w.steps = looks_shown account by seq (length parts) few w.steps parts refl whole waits.within on.follows in
        let values : IsSatisfied w.operation (values_of w.request.ask (shown_in parts w.steps)) = leb-true w.operation.least (tally w.operation.needs (values_of w.request.ask (shown_in parts w.steps))) enough in
        let at_looks : IsSatisfied w.operation (values_of w.request.ask (shown_as_completed account w.steps looks)) =
        subst (λ (ss : List Shown). IsSatisfied w.operation (values_of w.request.ask ss)) (sym shown) values in
        record {
          whole = record { request = w.request; steps = w.steps; looks = d.looks; accepted = d.accepted; entries = d.entries };
          completed = (
            d.delayed,
            looks_look account by seq (length parts) few w.steps parts refl whole waits.within on.follows,
            subst (λ (op : Operation). IsSatisfied op (values_of w.request.ask (shown_as_completed account w.steps looks))) (sym d.operation) at_looks,
          );
        };
  }

  pub done_expired : nat_le w.operation.deadline (moment_of clock) ≡ true
      → IsDone config left (clock ++ clocks.Look by seq ∷ []) (record call { finish = clock_point clock ∷ looks; how = Expired 0 })
  done_expired overdue = record {
    over = refl;
    whole = λ account on.
        let event : ClockEvent = clocks.Look by seq in
        let d = waits.delayed account (goes_back config parts left clock (clock ++ event ∷ []) account (grown_clock parts left clock event left_on) on) in
        let moment : moment_at account (clock_point clock) ≡ moment_of clock = clock_moment config left clock event account on ∙ looked_moment clock by seq in
        let late : IsOverdue w.operation (moment_at account (clock_point clock)) =
        subst (λ (m : ℕ). IsOverdue w.operation m) (sym moment) (leb-true w.operation.deadline (moment_of clock) overdue) in
        record {
          whole = record { request = w.request; steps = w.steps; looks = d.looks; accepted = d.accepted; entries = d.entries };
          completed = (
            d.delayed,
            (clock_looked config left clock by seq account on, looks_look account by seq (length parts) few w.steps parts refl whole waits.within on.follows),
            subst (λ (op : Operation). IsOverdue op (moment_at account (clock_point clock))) (sym d.operation) late,
          );
        };
  }
