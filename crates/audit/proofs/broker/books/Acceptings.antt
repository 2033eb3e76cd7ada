-- A call is accepted, one decision after the other: what holds of it holds on, and it is a book at each of these points.
use Rattle.std.proofs.Common.{◌≡◌, ℕ, zero, suc, ◌+◌, ◌≤◌, ◌<◌, Bool, true, false, cond, List, [], ◌∷◌, ◌++◌, length, map, take, Some, None, refl, sym, ap, subst, ◌∙◌, arith, inl, inr, append-nil, ℤ}
use Rattle.std.proofs.Math.Seq.{take-length}
use Rattle.std.proofs.lemmas.List.{map-append}
use Rattle.std.proofs.lemmas.List.Elements.{filter_map-append}
use Rattle.std.specs.Prelude.{slice_get}
use Rattle.std.specs.List.{AllByRecursion, AllZip}
use Rattle.partlog.specs.declared.clock_event.ClockEvent.{ClockEvent}
use Rattle.partlog.specs.declared.clock_event.ClockEvent.TheVariants as clocks
use Rattle.partlog.specs.History.{History}
use Rattle.partlog.specs.Moment.{moment_of}
use Rattle.audit.specs.declared.account.Account.{Account}
use Rattle.audit.specs.declared.account.Call.{Call}
use Rattle.audit.specs.declared.account.CallHow.{CallHow}
use Rattle.audit.specs.declared.account.CallHow.TheVariants.{Quiet, AtOnce, Parked, Cut}
use Rattle.audit.specs.declared.account.Point.{Point}
use Rattle.audit.specs.declared.account.Transcript.{Transcript}
use Rattle.audit.specs.Histories.{moment_at, no_state, points_of}
use Rattle.audit.specs.LawfulCall.{Step, Completes, IsAcceptance, IsAccepted, IsStep, LooksAtClock, is_delayed, operation_parts, part_in, shown_as_accepted, shown_at, step_points}
use Rattle.kbytes.proofs.Laws.{all_append}
use Rattle.kanswer.specs.declared.accepted.Accepted.TheVariants.{Refused}
use Rattle.kanswer.specs.Decisions.{Decision, Refuse, Decides}
use Rattle.kanswer.specs.Waiting.{Shown, becomes_delayed, is_quiet, operation_of, results_of}
use Rattle.kwire.specs.Configuration.{Configuration}
use Rattle.kwire.specs.IsRequest.{IsRequest}
use Rattle.kwire.specs.declared.request.Request.{Request}
use Rattle.audit.specs.broker.Board.{Waiting}
use Rattle.audit.specs.broker.Entering.{Noted, accept_all, shown_of, steps_of}
use Rattle.audit.specs.broker.GoesOn.{GoesOn, HaveGrown}
use Rattle.audit.specs.broker.Sound.{AllBelow, AreHistories, IsDelayedAs}
use Rattle.audit.specs.broker.Turns.{how_at_once}
use Rattle.audit.proofs.broker.Laws.{IsFair, ShowsAccepted, accepted_longer, accepted_shows, accepted_size, accepted_within, all_get, all_longer_self, carried_on, clock_looked, clock_moment, clock_point, completes, decides_fair, goes_back, grown_clock, grown_parts, histories_on, parts_size, ticks_looked}
use Rattle.audit.specs.broker.books.Book.{Book}
use Rattle.audit.specs.broker.books.IsBook.{IsBook}
use Rattle.audit.specs.broker.books.Owned.{OwnWithin}
use Rattle.audit.specs.broker.books.Told.{last_is_cut}
use Rattle.audit.specs.broker.books.Underway.{Underway, begun_amid, book_amid, earlier_calls, seq_of, with_end}
use Rattle.audit.specs.broker.books.Accepting.{IsAccepting, carried_out, clock_seen, left_waiting, noted_next}
use Rattle.audit.specs.broker.books.Finishing.{IsDelayed}
use Rattle.audit.proofs.broker.books.Growing.{as_many}
use Rattle.audit.proofs.broker.books.Lists.{zip_append}
use Rattle.audit.proofs.broker.books.Timing.{OwnsInTime, in_time_carried, in_time_look}
use Rattle.audit.proofs.broker.books.Underways.{amid_book, called, is_seq, others_underway, underway_as, underway_on}

-- ---- lists

pub take_next : {X : Type 0} (xs : List X) (i : ℕ) (x : X) → slice_get xs i ≡ Some x → take (suc i) xs ≡ take i xs ++ x ∷ []
take_next {X = X} [] i x e = absurd cc
take_next {X = X} (y ∷ xs) zero x e = let same : y ≡ x = cc in ap (λ (z : X). z ∷ []) same
take_next {X = X} (y ∷ xs) (suc i) x e = ap (λ (zs : List X). y ∷ zs) (take_next xs i x e)

pub steps_append : (xs ys : List Noted) → steps_of (xs ++ ys) ≡ steps_of xs ++ steps_of ys
steps_append xs ys = map-append (λ (n : Noted). n.step) xs ys

pub parts_append : (xs ys : List Step) → operation_parts (xs ++ ys) ≡ operation_parts xs ++ operation_parts ys
parts_append xs ys = filter_map-append (λ (step : Step). part_in step.result) xs ys

-- ---- histories

pub histories_looked : (config : Configuration) (parts : List History) (clock : List ClockEvent) (by seq : ℕ) → AreHistories config parts clock → AreHistories config parts (clock ++ clocks.Look by seq ∷ [])
histories_looked config parts clock by seq h = histories_on config parts clock (clock ++ clocks.Look by seq ∷ []) by seq 0 [] h tt (ticks_looked clock by seq)

pub histories_carried : (config : Configuration) (parts : List History) (clock : List ClockEvent) (by seq t : ℕ) (decision : Decision) → AreHistories config parts clock → IsFair (length parts) decision
    → AreHistories config (accept_all by seq t (decision ∷ []) parts).1 clock
histories_carried config parts clock by seq t decision h fair = histories_on config parts clock clock by seq t (decision ∷ []) h (fair, tt) refl

-- ---- others' entries came

pub others_accepting : (u : Underway) (request : Request) (decisions : List Decision) (reached : ℕ) (noted : List Noted) (later : List History) (behind : List ClockEvent) → HaveGrown u.parts u.clock later behind
    → OwnWithin u.number u.parts u.clock later behind → AreHistories u.config later behind → IsAccepting u request decisions reached noted → IsAccepting (record u { parts = later; clock = behind }) request decisions reached noted
others_accepting u request decisions reached noted later behind grown within histories h = record {
  underway = others_underway u later behind grown within histories h.underway;
  asked = h.asked;
  decided = h.decided;
  each = carried_on u.config u.parts later u.clock behind (λ account. AllZip (IsStep account) (take reached decisions) (steps_of noted)) grown h.each;
  shown = carried_on u.config u.parts later u.clock behind (λ account. shown_as_accepted account (steps_of noted) ≡ shown_of noted) grown h.shown;
  points = h.points;
  unfinished = h.unfinished;
  within = subst (λ (n : ℕ). AllBelow n (operation_parts (steps_of noted))) (sym (as_many u.config u.parts later u.clock behind h.underway.histories histories)) h.within;
}

-- with its end told otherwise
pub accepting_as : (u : Underway) (request : Request) (decisions : List Decision) (reached : ℕ) (noted : List Noted) (how : CallHow) → IsAccepting u request decisions reached noted
    → IsAccepting (with_end u how) request decisions reached noted
accepting_as u request decisions reached noted how h = record {
  underway = underway_as u how h.underway;
  asked = h.asked;
  decided = h.decided;
  each = h.each;
  shown = h.shown;
  points = h.points;
  unfinished = h.unfinished;
  within = h.within;
}

-- ---- a call is written down

pub called_accepting : (book : Book) (front : List Transcript) (transcript : Transcript) (frame : List ℕ) (request : Request) (decisions : List Decision) → transcript.end ≡ None → last_is_cut transcript.calls ≡ false
    → IsRequest frame request → Decides book.config request.ask decisions → IsBook (record book { transcripts = front ++ transcript ∷ [] }) None → IsAccepting (begun_amid book front transcript frame) request decisions 0 []
called_accepting book front transcript frame request decisions going uncut asked decided h = record {
  underway = called book front transcript frame going uncut h;
  asked = asked;
  decided = decided;
  each = λ account on. tt;
  shown = λ account on. refl;
  points = refl;
  unfinished = refl;
  within = tt;
}

module _ (u : Underway) (request : Request) (decisions : List Decision) (reached : ℕ) (noted : List Noted) (h : IsAccepting u request decisions reached noted) where
  few : length u.parts ≤ 64
  few = omega (arith, h.underway.histories.few)

  fair : AllByRecursion (IsFair (length u.parts)) decisions
  fair = subst (λ (n : ℕ). AllByRecursion (IsFair n) decisions) (sym (parts_size u.config.topics u.parts h.underway.histories.followers)) (decides_fair u.config request.ask decisions h.decided)

  -- it has no points but those of its acceptance
  no_finish : points_of u.call ≡ u.call.accept
  no_finish = ap (λ (ps : List Point). u.call.accept ++ ps) h.unfinished ∙ append-nil u.call.accept

  own_accept : OwnsInTime u.number u.parts u.clock (map points_of (earlier_calls u) ++ u.call.accept ∷ [])
  own_accept =
      subst (λ (ps : List Point). OwnsInTime u.number u.parts u.clock (map points_of (earlier_calls u) ++ ps ∷ [])) no_finish (record { own = h.underway.own; timely = h.underway.timely })

  -- the call with these points more
  abbrev with_points : List Point → Call
  with_points points = record u.call { accept = u.call.accept ++ points }

  points_with : (points : List Point) → u.call.accept ++ points ≡ points_of (with_points points)
  points_with points = sym (ap (λ (ps : List Point). (u.call.accept ++ points) ++ ps) h.unfinished ∙ append-nil (u.call.accept ++ points))

  own_more : (later : List History) (behind : List ClockEvent) (points : List Point) → OwnsInTime u.number later behind (map points_of (earlier_calls u) ++ (u.call.accept ++ points) ∷ [])
      → OwnsInTime u.number later behind (map points_of (earlier_calls u) ++ points_of (with_points points) ∷ [])
  own_more later behind points entries = subst (λ (ps : List Point). OwnsInTime u.number later behind (map points_of (earlier_calls u) ++ ps ∷ [])) (points_with points) entries

  -- ---- one decision more

  module _ (decision : Decision) (next : slice_get decisions reached ≡ Some decision) where
    abbrev later : List History
    later = (accept_all u.number (seq_of u) (moment_of u.clock) (decision ∷ []) u.parts).1

    abbrev new : List Noted
    new = noted_next u decision

    one_fair : IsFair (length u.parts) decision
    one_fair = all_get (IsFair (length u.parts)) decisions reached decision fair next

    grown : HaveGrown u.parts u.clock later u.clock
    grown = grown_parts u.parts later u.clock (accepted_longer u.number (seq_of u) (moment_of u.clock) (length u.parts) (decision ∷ []) u.parts refl (one_fair, tt))

    next_taken : take (reached + 1) decisions ≡ take reached decisions ++ decision ∷ []
    next_taken = let one : reached + 1 ≡ suc reached = omega arith in ap (λ (n : ℕ). take n decisions) one ∙ take_next decisions reached decision next

    back : (account : Account) → GoesOn u.config later u.clock account → GoesOn u.config u.parts u.clock account
    back account on = goes_back u.config u.parts later u.clock u.clock account grown on

    one_shows : (account : Account) → GoesOn u.config later u.clock account → ShowsAccepted u.number (seq_of u) account (decision ∷ []) new
    one_shows account on = accepted_shows u.number (seq_of u) (moment_of u.clock) (length u.parts) (decision ∷ []) u.parts account refl few h.underway.histories.whole (one_fair, tt) on.follows

    steps_on : (account : Account) → GoesOn u.config later u.clock account → AllZip (IsStep account) (take (reached + 1) decisions) (steps_of (noted ++ new))
    steps_on account on =
        subst (λ (ds : List Decision). AllZip (IsStep account) ds (steps_of (noted ++ new))) (sym next_taken)
        (subst (AllZip (IsStep account) (take reached decisions ++ decision ∷ [])) (sym (steps_append noted new))
        (zip_append (IsStep account) (take reached decisions) (steps_of noted) (decision ∷ []) (steps_of new) (h.each account (back account on)) (one_shows account on).steps))

    shown_on : (account : Account) → GoesOn u.config later u.clock account → shown_as_accepted account (steps_of (noted ++ new)) ≡ shown_of (noted ++ new)
    shown_on account on =
        ap (shown_as_accepted account) (steps_append noted new)
        ∙ map-append (λ (step : Step). record { result = step.result; state = shown_at account step.point }) (steps_of noted) (steps_of new)
        ∙ ap (λ (ss : List Shown). ss ++ shown_as_accepted account (steps_of new)) (h.shown account (back account on)) ∙ ap (λ (ss : List Shown). shown_of noted ++ ss) (one_shows account on).shown
        ∙ sym (map-append (λ (n : Noted). record { result = n.step.result; state = n.state }) noted new)

    more_points : u.call.accept ++ step_points (steps_of new) ≡ step_points (steps_of (noted ++ new))
    more_points =
        ap (λ (ps : List Point). ps ++ step_points (steps_of new)) h.points ∙ sym (filter_map-append (λ (step : Step). step.point) (steps_of noted) (steps_of new))
        ∙ sym (ap step_points (steps_append noted new))

    still_within : AllBelow (length later) (operation_parts (steps_of (noted ++ new)))
    still_within =
        subst (λ (n : ℕ). AllBelow n (operation_parts (steps_of (noted ++ new)))) (sym (accepted_size u.number (seq_of u) (moment_of u.clock) (length u.parts) (decision ∷ []) u.parts))
        (subst (AllBelow (length u.parts)) (sym (ap operation_parts (steps_append noted new) ∙ parts_append (steps_of noted) (steps_of new)))
        (all_append (λ (x : ℕ). x < length u.parts) (operation_parts (steps_of noted)) (operation_parts (steps_of new)) h.within (accepted_within u.number (seq_of u) (moment_of u.clock) (length u.parts) (decision ∷ []) u.parts (one_fair, tt))))

    pub accepting_on : IsAccepting (carried_out u decision) request decisions (reached + 1) (noted ++ noted_next u decision)
    accepting_on = record {
      underway = underway_on u later u.clock (with_points (step_points (steps_of new))) h.underway grown (histories_carried u.config u.parts u.clock u.number (seq_of u) (moment_of u.clock) decision h.underway.histories one_fair)
          (own_more later u.clock (step_points (steps_of new)) (in_time_carried u.parts u.clock u.number (seq_of u) decision (map points_of (earlier_calls u)) u.call.accept (is_seq u) few one_fair own_accept));
      asked = h.asked;
      decided = h.decided;
      each = steps_on;
      shown = shown_on;
      points = more_points;
      unfinished = h.unfinished;
      within = still_within;
    }

  -- a partition that is refused leaves no entry and no point
  pub accepting_refused : (code : ℤ) → slice_get decisions reached ≡ Some (Refuse code)
      → IsAccepting u request decisions (reached + 1) (noted ++ record { step = record { result = Refused code; point = None }; state = no_state } ∷ [])
  accepting_refused code next =
      subst (λ (points : List Point). IsAccepting (record u { call = record u.call { accept = points } }) request decisions (reached + 1) (noted ++ noted_next u (Refuse code))) (append-nil u.call.accept)
      (accepting_on (Refuse code) next)

  -- ---- it is cut off

  pub accepting_cut : u.call.how ≡ Cut None → IsBook (book_amid u) None
  accepting_cut how = amid_book u h.underway (record {
    unparked = λ parked. let other : Cut None ≡ Parked = sym how ∙ parked in absurd cc;
    lawful = λ account on. inr (record {
      request = request;
      is_request = h.asked;
      decisions = decisions;
      decided = subst (λ (c : Configuration). Decides c request.ask decisions) (sym on.same) h.decided;
      reached = reached;
      steps = steps_of noted;
      each = h.each account on;
      points = h.points;
      unfinished = h.unfinished;
      how = how;
    });
  })

-- ---- all decisions are carried out

never_parked : (b : Bool) → cond b Quiet AtOnce ≡ Parked → ⊥
never_parked true e = absurd cc
never_parked false e = absurd cc

module _ (u : Underway) (request : Request) (decisions : List Decision) (noted : List Noted) (h : IsAccepting u request decisions (length decisions) noted) where
  pub accepted_whole : (account : Account) → GoesOn u.config u.parts u.clock account → IsAcceptance account u.call.frame request (steps_of noted)
  accepted_whole account on = record {
    asked = h.asked;
    decisions = decisions;
    decided = subst (λ (c : Configuration). Decides c request.ask decisions) (sym on.same) h.decided;
    each = subst (λ (ds : List Decision). AllZip (IsStep account) ds (steps_of noted)) (take-length decisions) (h.each account on);
  }

  -- it isn't delayed
  abbrev pub accepted_in : becomes_delayed request.ask (shown_of noted) ≡ false → (account : Account) → GoesOn u.config u.parts u.clock account → IsAccepted account u.call
  accepted_in at_once account on =
      let undelayed : is_delayed account request (steps_of noted) ≡ false = ap (becomes_delayed request.ask) (h.shown account on) ∙ at_once in
      record {
        request = request;
        steps = steps_of noted;
        looks = [];
        accepted = accepted_whole account on;
        entries = record {
          points = h.points ∙ sym (append-nil (step_points (steps_of noted)));
          clock = subst (λ (b : Bool). LooksAtClock account b []) (sym undelayed) refl;
        };
      }

  -- and is answered at once
  pub answered_book : becomes_delayed request.ask (shown_of noted) ≡ false → u.call.how ≡ how_at_once request.ask → IsBook (book_amid u) None
  answered_book at_once how = amid_book u h.underway (record {
    unparked = λ parked. never_parked (is_quiet request.ask) (sym how ∙ parked);
    lawful = λ account on.
        let undelayed : is_delayed account request (steps_of noted) ≡ false = ap (becomes_delayed request.ask) (h.shown account on) ∙ at_once in
        inl (record {
          whole = accepted_in at_once account on;
          completed = subst (λ (end : CallHow). Completes account request (steps_of noted) [] u.call.finish end) (sym how)
              (subst (λ (ps : List Point). Completes account request (steps_of noted) [] ps (how_at_once request.ask)) (sym h.unfinished)
              (completes account request (steps_of noted) (is_quiet request.ask) refl undelayed));
        });
  })

  abbrev w : Waiting
  w = left_waiting u request noted

  abbrev behind : List ClockEvent
  behind = u.clock ++ clocks.Look u.number (seq_of u) ∷ []

  looked_grown : HaveGrown u.parts u.clock u.parts behind
  looked_grown = grown_clock u.parts u.parts u.clock (clocks.Look u.number (seq_of u)) (all_longer_self u.parts)

  delayed_as : becomes_delayed request.ask (shown_of noted) ≡ true → (account : Account) → GoesOn u.config u.parts behind account → IsDelayedAs w (clock_seen u).call account
  delayed_as waits account on =
      let back = goes_back u.config u.parts u.parts u.clock behind account looked_grown on in
      let delayed : is_delayed account request (steps_of noted) ≡ true = ap (becomes_delayed request.ask) (h.shown account back) ∙ waits in
      record {
        accepted = accepted_whole account back;
        looks = clock_point u.clock ∷ [];
        entries = record {
          points = ap (λ (ps : List Point). ps ++ clock_point u.clock ∷ []) h.points;
          clock = subst (λ (b : Bool). LooksAtClock account b (clock_point u.clock ∷ [])) (sym delayed) (clock_point u.clock, refl, clock_looked u.config u.parts u.clock u.number (seq_of u) account on);
        };
        delayed = delayed;
        operation = ap (λ (ss : List Shown). operation_of request.ask (results_of ss) (moment_at account (clock_point u.clock))) (h.shown account back)
            ∙ ap (λ (m : ℕ). operation_of request.ask (results_of (shown_of noted)) m) (clock_moment u.config u.parts u.clock (clocks.Look u.number (seq_of u)) account on);
      }

  -- it is delayed, and the clock is looked at
  pub accepting_delayed : becomes_delayed request.ask (shown_of noted) ≡ true → IsDelayed (clock_seen u) (left_waiting u request noted)
  accepting_delayed waits = record {
    underway = underway_on u u.parts behind (with_points u request decisions (length decisions) noted h (clock_point u.clock ∷ [])) h.underway looked_grown
        (histories_looked u.config u.parts u.clock u.number (seq_of u) h.underway.histories)
        (own_more u request decisions (length decisions) noted h u.parts behind (clock_point u.clock ∷ [])
        (in_time_look u.parts u.clock u.number (seq_of u) (map points_of (earlier_calls u)) u.call.accept (is_seq u) (few u request decisions (length decisions) noted h)
        (own_accept u request decisions (length decisions) noted h)));
    delayed = delayed_as waits;
    within = h.within;
    own = refl;
  }
