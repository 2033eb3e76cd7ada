-- Whether a call is lawful asks the topics and histories of an account alone, and neither its passes nor its winners.
use Rattle.std.proofs.Common.{◌≡◌, ◌∙◌, ◌⊎◌, ℕ, Bool, true, false, List, [], ◌∷◌, Option, Some, None, take, refl, sym, ap, subst, inl, inr}
use Rattle.std.specs.List.{AllZip}
use Rattle.partlog.specs.Moment.{moment_of}
use Rattle.partlog.specs.State.{PartState}
use Rattle.audit.specs.declared.account.Account.{Account}
use Rattle.audit.specs.declared.account.Call.{Call}
use Rattle.audit.specs.declared.account.CallHow.{CallHow}
use Rattle.audit.specs.declared.account.CallHow.TheVariants.{Quiet, AtOnce, Satisfied, Expired, Parked, Cut}
use Rattle.audit.specs.declared.account.Point.{Point}
use Rattle.audit.specs.declared.account.Transcript.{Transcript}
use Rattle.audit.specs.Histories.{at_point, before_point, no_state}
use Rattle.audit.specs.LawfulCall.{Step, IsEntry, IsStep, shown_at, shown_as_accepted, IsLook, LooksAtClock, moment_among, IsAcceptance, HasAccepted, operation_in, operation_parts, part_in, by_part, shown_as_completed, final_of, shown_at_last, AreLooks, AreLooksAfterClock, AreFirstLooks, AreFirstLooksAfterClock, is_delayed, IsSatisfiedAt, IsOverdueAt, IsCutAsSatisfied, IsCutAsExpired, Completes, IsLawfulCall}
use Rattle.kanswer.specs.Decisions.{Decision, Entry, Put, Followed, Looked, Refuse, AskLog}
use Rattle.kanswer.specs.Waiting.{Shown, becomes_delayed, operation_of, results_of, values_of}
use Rattle.kwire.specs.declared.request.Request.{Request}
use Rattle.opcond.specs.Operation.{Operation}
use Rattle.opcond.specs.Tally.{IsAnswerable, IsOverdue, IsSatisfied}

-- the account with other passes and winners
abbrev pub regrouped : Account → List (List Transcript) → List ℕ → Account
regrouped account passes wins = record account { passes = passes; wins = wins }

zip_on : {X Y : Type 0} (P Q : X → Y → Type 0) → ((x : X) (y : Y) → P x y → Q x y) → (xs : List X) (ys : List Y) → AllZip P xs ys → AllZip Q xs ys
zip_on P Q goes [] [] all = tt
zip_on P Q goes [] (y ∷ ys) all = absurd all
zip_on P Q goes (x ∷ xs) [] all = absurd all
zip_on P Q goes (x ∷ xs) (y ∷ ys) all = (goes x y all.0, zip_on P Q goes xs ys all.1)

by_same : (o : Option ℕ) (none some after later : List Shown) → none ≡ after → some ≡ later → by_part o none some ≡ by_part o after later
by_same None none some after later e f = e
by_same (Some part) none some after later e f = f

module _ (a : Account) (passes : List (List Transcript)) (wins : List ℕ) where
  -- ---- the states that it finds

  shown_same : (o : Option Point) → shown_at (regrouped a passes wins) o ≡ shown_at a o
  shown_same None = refl
  shown_same (Some point) = refl

  accepted_same : (steps : List Step) → shown_as_accepted (regrouped a passes wins) steps ≡ shown_as_accepted a steps
  accepted_same [] = refl
  accepted_same (step ∷ steps) =
      ap (λ (s : PartState). record { result = step.result; state = s } ∷ shown_as_accepted (regrouped a passes wins) steps) (shown_same step.point)
      ∙ ap (λ (ss : List Shown). record { result = step.result; state = shown_at a step.point } ∷ ss) (accepted_same steps)

  moment_same : (points : List Point) → moment_among (regrouped a passes wins) points ≡ moment_among a points
  moment_same [] = refl
  moment_same (point ∷ points) = refl

  operation_same : (request : Request) (steps : List Step) (looks : List Point) → operation_in (regrouped a passes wins) request steps looks ≡ operation_in a request steps looks
  operation_same request steps looks =
      ap (λ (ss : List Shown). operation_of request.ask (results_of ss) (moment_among (regrouped a passes wins) looks)) (accepted_same steps)
      ∙ ap (λ (m : ℕ). operation_of request.ask (results_of (shown_as_accepted a steps)) m) (moment_same looks)

  delayed_same : (request : Request) (steps : List Step) → is_delayed (regrouped a passes wins) request steps ≡ is_delayed a request steps
  delayed_same request steps = ap (λ (ss : List Shown). becomes_delayed request.ask ss) (accepted_same steps)

  completed_same : (steps : List Step) (points : List Point) → shown_as_completed (regrouped a passes wins) steps points ≡ shown_as_completed a steps points
  completed_same [] points = refl
  completed_same (step ∷ steps) [] = ap (λ (ss : List Shown). record { result = step.result; state = no_state } ∷ ss) (completed_same steps [])
  completed_same (step ∷ steps) (point ∷ points) =
      by_same (part_in step.result)
      (record { result = step.result; state = no_state } ∷ shown_as_completed (regrouped a passes wins) steps (point ∷ points))
      (record { result = step.result; state = at_point a point } ∷ shown_as_completed (regrouped a passes wins) steps points)
      (record { result = step.result; state = no_state } ∷ shown_as_completed a steps (point ∷ points))
      (record { result = step.result; state = at_point a point } ∷ shown_as_completed a steps points)
      (ap (λ (ss : List Shown). record { result = step.result; state = no_state } ∷ ss) (completed_same steps (point ∷ points)))
      (ap (λ (ss : List Shown). record { result = step.result; state = at_point a point } ∷ ss) (completed_same steps points))

  final_same : (o : Option ℕ) → final_of (regrouped a passes wins) o ≡ final_of a o
  final_same None = refl
  final_same (Some part) = refl

  last_same : (steps : List Step) → shown_at_last (regrouped a passes wins) steps ≡ shown_at_last a steps
  last_same [] = refl
  last_same (step ∷ steps) =
      ap (λ (s : PartState). record { result = step.result; state = s } ∷ shown_at_last (regrouped a passes wins) steps) (final_same (part_in step.result))
      ∙ ap (λ (ss : List Shown). record { result = step.result; state = final_of a (part_in step.result) } ∷ ss) (last_same steps)

  -- ---- its acceptance

  entry_on : (point : Point) (entry : Entry) → IsEntry a point entry → IsEntry (regrouped a passes wins) point entry
  entry_on point (Put count batch) h = h
  entry_on point (Followed replica offset) h = h
  entry_on point Looked h = h

  step_on : (decision : Decision) (step : Step) → IsStep a decision step → IsStep (regrouped a passes wins) decision step
  step_on (Refuse code) step h = h
  step_on (AskLog part outcome) step h = record {
    point = h.point;
    left = h.left;
    there = h.there;
    result = h.result;
    entry = entry_on h.point (outcome (before_point a h.point)).entry h.entry;
  }

  clock_on : (delayed : Bool) (looks : List Point) → LooksAtClock a delayed looks → LooksAtClock (regrouped a passes wins) delayed looks
  clock_on true looks h = h
  clock_on false looks h = h

  acceptance_on : (frame : List ℕ) (request : Request) (steps : List Step) → IsAcceptance a frame request steps → IsAcceptance (regrouped a passes wins) frame request steps
  acceptance_on frame request steps h = record {
    asked = h.asked;
    decisions = h.decisions;
    decided = h.decided;
    each = zip_on (IsStep a) (IsStep (regrouped a passes wins)) step_on h.decisions steps h.each;
  }

  entries_on : (request : Request) (steps : List Step) (accept looks : List Point) → HasAccepted a request steps accept looks → HasAccepted (regrouped a passes wins) request steps accept looks
  entries_on request steps accept looks h = record {
    points = h.points;
    clock = subst (λ (d : Bool). LooksAtClock (regrouped a passes wins) d looks) (sym (delayed_same request steps)) (clock_on (is_delayed a request steps) looks h.clock);
  }

  -- ---- its completion

  looks_on : (steps : List Step) (points : List Point) → AreLooks a steps points → AreLooks (regrouped a passes wins) steps points
  looks_on steps points h = zip_on (IsLook a) (IsLook (regrouped a passes wins)) (λ part point look. look) (operation_parts steps) points h

  looks_back : (steps : List Step) (points : List Point) → AreLooks (regrouped a passes wins) steps points → AreLooks a steps points
  looks_back steps points h = zip_on (IsLook (regrouped a passes wins)) (IsLook a) (λ part point look. look) (operation_parts steps) points h

  after_on : (steps : List Step) (points : List Point) → AreLooksAfterClock a steps points → AreLooksAfterClock (regrouped a passes wins) steps points
  after_on steps [] h = absurd h
  after_on steps (point ∷ points) h = (h.0, looks_on steps points h.1)

  first_on : (steps : List Step) (points : List Point) → AreFirstLooks a steps points → AreFirstLooks (regrouped a passes wins) steps points
  first_on steps points h = (h.0, zip_on (IsLook a) (IsLook (regrouped a passes wins)) (λ part point look. look) (take h.0 (operation_parts steps)) points h.1)

  first_after_on : (steps : List Step) (points : List Point) → AreFirstLooksAfterClock a steps points → AreFirstLooksAfterClock (regrouped a passes wins) steps points
  first_after_on steps [] h = absurd h
  first_after_on steps (point ∷ points) h = (h.0, first_on steps points h.1)

  satisfied_on : (request : Request) (steps : List Step) (looks finish : List Point) → IsSatisfiedAt a request steps looks finish → IsSatisfiedAt (regrouped a passes wins) request steps looks finish
  satisfied_on request steps looks finish h =
      subst (λ (op : Operation). IsSatisfied op (values_of request.ask (shown_as_completed (regrouped a passes wins) steps finish))) (sym (operation_same request steps looks))
      (subst (λ (ss : List Shown). IsSatisfied (operation_in a request steps looks) (values_of request.ask ss)) (sym (completed_same steps finish)) h)

  overdue_on : (request : Request) (steps : List Step) (looks finish : List Point) → IsOverdueAt a request steps looks finish → IsOverdueAt (regrouped a passes wins) request steps looks finish
  overdue_on request steps looks finish h =
      subst (λ (op : Operation). IsOverdue op (moment_among (regrouped a passes wins) finish)) (sym (operation_same request steps looks))
      (subst (λ (m : ℕ). IsOverdue (operation_in a request steps looks) m) (sym (moment_same finish)) h)

  answerable_back : (request : Request) (steps : List Step) (looks : List Point)
      → IsAnswerable (operation_in (regrouped a passes wins) request steps looks) (values_of request.ask (shown_at_last (regrouped a passes wins) steps)) (moment_of a.clock)
      → IsAnswerable (operation_in a request steps looks) (values_of request.ask (shown_at_last a steps)) (moment_of a.clock)
  answerable_back request steps looks h =
      subst (λ (op : Operation). IsAnswerable op (values_of request.ask (shown_at_last a steps)) (moment_of a.clock)) (operation_same request steps looks)
      (subst (λ (ss : List Shown). IsAnswerable (operation_in (regrouped a passes wins) request steps looks) (values_of request.ask ss) (moment_of a.clock)) (last_same steps) h)

  completes_on : (request : Request) (steps : List Step) (looks finish : List Point) (how : CallHow) → Completes a request steps looks finish how → Completes (regrouped a passes wins) request steps looks finish how
  completes_on request steps looks finish Quiet h = h
  completes_on request steps looks finish AtOnce h = (h.0, delayed_same request steps ∙ h.1, h.2)
  completes_on request steps looks finish (Satisfied by) h = (delayed_same request steps ∙ h.0, looks_on steps finish h.1, satisfied_on request steps looks finish h.2)
  completes_on request steps looks finish (Expired by) h = (delayed_same request steps ∙ h.0, after_on steps finish h.1, overdue_on request steps looks finish h.2)
  completes_on request steps looks finish Parked h = (delayed_same request steps ∙ h.0, h.1, λ answerable. h.2 (answerable_back request steps looks answerable))
  completes_on request steps looks finish (Cut None) h = h
  completes_on request steps looks finish (Cut (Some by)) h = (delayed_same request steps ∙ h.0, cut_on h.1)
    where
      cut_on : (IsCutAsSatisfied a request steps looks finish ⊎ IsCutAsExpired a request steps looks finish)
          → (IsCutAsSatisfied (regrouped a passes wins) request steps looks finish ⊎ IsCutAsExpired (regrouped a passes wins) request steps looks finish)
      cut_on (inl s) = inl (record { first = first_on steps finish s.first; satisfied = λ all. satisfied_on request steps looks finish (s.satisfied (looks_back steps finish all)) })
      cut_on (inr e) = inr (record { first = first_after_on steps finish e.first; overdue = overdue_on request steps looks finish e.overdue })

  pub call_on : (call : Call) → IsLawfulCall a call → IsLawfulCall (regrouped a passes wins) call
  call_on call (inl h) =
      let w = h.whole in
      inl (record {
        whole = record {
          request = w.request;
          steps = w.steps;
          looks = w.looks;
          accepted = acceptance_on call.frame w.request w.steps w.accepted;
          entries = entries_on w.request w.steps call.accept w.looks w.entries;
        };
        completed = completes_on w.request w.steps w.looks call.finish call.how h.completed;
      })
  call_on call (inr h) = inr (record {
    request = h.request;
    is_request = h.is_request;
    decisions = h.decisions;
    decided = h.decided;
    reached = h.reached;
    steps = h.steps;
    each = zip_on (IsStep a) (IsStep (regrouped a passes wins)) step_on (take h.reached h.decisions) h.steps h.each;
    points = h.points;
    unfinished = h.unfinished;
    how = h.how;
  })
