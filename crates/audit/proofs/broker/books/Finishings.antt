-- A delayed call comes to its end: what holds of it holds on, and it is a book at each of these points.
use Rattle.std.proofs.Common.{◌≡◌, ℕ, suc, ◌≤◌, ◌<◌, List, [], ◌∷◌, ◌++◌, length, map, set, take, Option, Some, None, refl, sym, ap, subst, ◌∙◌, arith, inl, inr, append_assoc, length-append}
use Rattle.std.proofs.Math.Seq.{take-length}
use Rattle.std.proofs.lemmas.List.{length-map, map-append}
use Rattle.std.proofs.lemmas.Slice.Zip.{AllZip-long}
use Rattle.std.specs.Prelude.{option_to_list, slice_get}
use Rattle.std.specs.List.{AllZip}
use Rattle.partlog.specs.declared.clock_event.ClockEvent.{ClockEvent}
use Rattle.partlog.specs.declared.clock_event.ClockEvent.TheVariants as clocks
use Rattle.partlog.specs.History.{History}
use Rattle.partlog.specs.Moment.{moment_of}
use Rattle.partlog.specs.State.{PartState as State, state_of}
use Rattle.audit.specs.declared.account.Account.{Account}
use Rattle.audit.specs.declared.account.Call.{Call}
use Rattle.audit.specs.declared.account.CallHow.{CallHow}
use Rattle.audit.specs.declared.account.CallHow.TheVariants.{Satisfied, Expired, Parked, Cut}
use Rattle.audit.specs.declared.account.Point.{Point}
use Rattle.audit.specs.Histories.{at_point, moment_at, no_state, points_of}
use Rattle.audit.specs.LawfulCall.{Step, AreLooks, Completes, IsClockLook, IsCutAsExpired, IsCutAsSatisfied, IsLook, by_part, operation_in, operation_parts, part_in, shown_as_completed}
use Rattle.kanswer.specs.Decisions.{AskLog, Decision, Looked, look}
use Rattle.kanswer.specs.declared.accepted.Accepted.TheVariants.{Seen}
use Rattle.kanswer.specs.Waiting.{Shown, values_of}
use Rattle.opcond.specs.Operation.{Operation}
use Rattle.opcond.specs.Tally.{IsOverdue, IsSatisfied}
use Rattle.audit.specs.Histories.{part_account}
use Rattle.audit.specs.broker.Board.{Waiting, history_at}
use Rattle.kanswer.specs.WithEntry.{entered}
use Rattle.audit.specs.broker.GoesOn.{GoesOn, HaveGrown}
use Rattle.audit.specs.broker.Sound.{AllBelow, AreHistories, IsDelayedAs}
use Rattle.audit.proofs.broker.Laws.{IsFair, accepted_longer, accepted_shows, all_get, all_longer_self, carried_on, clock_looked, clock_moment, clock_point, goes_back, grown_clock, grown_parts, looked_moment, looked_state}
use Rattle.audit.specs.broker.books.IsBook.{IsBook, IsFinished}
use Rattle.audit.specs.broker.books.Owned.{OwnWithin}
use Rattle.audit.specs.broker.books.Underway.{Underway, book_amid, earlier_calls, seq_of, with_end}
use Rattle.audit.specs.broker.books.Finishing.{IsDelayed, IsDue, IsFinishing, late_seen, part_seen, shown_with}
use Rattle.audit.proofs.broker.books.Acceptings.{histories_carried, histories_looked, take_next}
use Rattle.audit.proofs.broker.books.Asking.{delayed_asks}
use Rattle.audit.proofs.broker.books.Growing.{account_goes_on, as_many}
use Rattle.audit.proofs.broker.books.Lists.{zip_append}
use Rattle.audit.proofs.broker.books.Timing.{OwnsInTime, in_time_carried, in_time_look}
use Rattle.audit.proofs.broker.books.Underways.{amid_book, amid_waits, is_seq, others_underway, underway_as, underway_on, waits_call, waits_underway}

-- ---- delayed

pub delayed_parked : (u : Underway) (w : Waiting) → IsDelayed u w → u.call.finish ≡ [] → u.call.how ≡ Parked → IsBook (book_amid u) (Some w)
delayed_parked u w h unfinished how = amid_waits u w h.underway (record { delayed = h.delayed; unfinished = unfinished; how = how; within = h.within }) h.own

-- it was cut off before anyone had won it
pub delayed_cut : (u : Underway) (w : Waiting) → IsDelayed u w → u.call.finish ≡ [] → u.call.how ≡ Cut None → IsBook (book_amid u) None
delayed_cut u w h unfinished how = amid_book u h.underway (record {
  unparked = λ parked. let other : Cut None ≡ Parked = sym how ∙ parked in absurd cc;
  lawful = λ account on.
      let d = h.delayed account on in
      inl (record {
        whole = record { request = w.request; steps = w.steps; looks = d.looks; accepted = d.accepted; entries = d.entries };
        completed = subst (λ (end : CallHow). Completes account w.request w.steps d.looks u.call.finish end) (sym how) unfinished;
      });
})

-- a book of which a request waits
pub waits_delayed : (u : Underway) (w : Waiting) → IsBook (book_amid u) (Some w) → IsDelayed u w × (u.call.finish ≡ []) × (u.call.how ≡ Parked)
waits_delayed u w h =
    let waits = waits_call u w h in
    (record { underway = waits_underway u w h; delayed = waits.delayed; within = waits.within; own = h.calls.own }, waits.unfinished, waits.how)

-- with its end told otherwise
pub delayed_as : (u : Underway) (w : Waiting) (how : CallHow) → IsDelayed u w → IsDelayed (with_end u how) w
delayed_as u w how h = record {
  underway = underway_as u how h.underway;
  delayed = λ account on. let d = h.delayed account on in record { accepted = d.accepted; looks = d.looks; entries = d.entries; delayed = d.delayed; operation = d.operation };
  within = h.within;
  own = h.own;
}

-- with more last entries, in histories that go on
delayed_on : (u : Underway) (w : Waiting) (later : List History) (behind : List ClockEvent) (finish : List Point) → IsDelayed u w → HaveGrown u.parts u.clock later behind → AreHistories u.config later behind
    → OwnsInTime u.number later behind (map points_of (earlier_calls u) ++ (u.call.accept ++ finish) ∷ [])
    → IsDelayed (record u { parts = later; clock = behind; call = record u.call { finish = finish } }) w
delayed_on u w later behind finish h grown histories entries = record {
  underway = underway_on u later behind (record u.call { finish = finish }) h.underway grown histories entries;
  delayed = λ account on.
      let d = h.delayed account (goes_back u.config u.parts later u.clock behind account grown on) in
      record { accepted = d.accepted; looks = d.looks; entries = d.entries; delayed = d.delayed; operation = d.operation };
  within = subst (λ (n : ℕ). AllBelow n (operation_parts w.steps)) (sym (as_many u.config u.parts later u.clock behind h.underway.histories histories)) h.within;
  own = h.own;
}

pub others_delayed : (u : Underway) (w : Waiting) (later : List History) (behind : List ClockEvent) → HaveGrown u.parts u.clock later behind → OwnWithin u.number u.parts u.clock later behind → AreHistories u.config later behind
    → IsDelayed u w → IsDelayed (record u { parts = later; clock = behind }) w
others_delayed u w later behind grown within histories h = record {
  underway = others_underway u later behind grown within histories h.underway;
  delayed = carried_on u.config u.parts later u.clock behind (IsDelayedAs w u.call) grown h.delayed;
  within = subst (λ (n : ℕ). AllBelow n (operation_parts w.steps)) (sym (as_many u.config u.parts later u.clock behind h.underway.histories histories)) h.within;
  own = h.own;
}

-- ---- won

-- an account that goes on from what the pass saw
abbrev as_seen : Underway → Account
as_seen u = record { config = u.config; parts = map part_account u.parts; clock = u.clock; passes = []; wins = [] }

asks_some : (u : Underway) (w : Waiting) → IsDelayed u w → operation_parts w.steps ≡ [] → ⊥
asks_some u w h none = delayed_asks (as_seen u) w.request w.steps (h.delayed (as_seen u) (account_goes_on u.config u.parts u.clock (as_seen u) refl refl refl)).delayed none

nothing_left : {X : Type 0} (xs : List X) → 0 ≡ length xs → xs ≡ []
nothing_left [] e = refl
nothing_left (x ∷ xs) e = absurd (omega (arith, e))

pub finishing_won : (u : Underway) (w : Waiting) → IsDelayed u w → u.call.finish ≡ [] → IsFinishing u w None []
finishing_won u w h unfinished = record {
  delayed = h;
  looks = [];
  finish = unfinished;
  each = λ account on. tt;
  seen = λ account on. refl;
  due = λ all. absurd (asks_some u w h (nothing_left (operation_parts w.steps) all));
}

-- with its end told otherwise
pub finishing_as : (u : Underway) (w : Waiting) (late : Option Point) (states : List State) (how : CallHow) → IsFinishing u w late states → IsFinishing (with_end u how) w late states
finishing_as u w late states how h = record {
  delayed = delayed_as u w how h.delayed;
  looks = h.looks;
  finish = h.finish;
  each = h.each;
  seen = h.seen;
  due = by_cause late h.due;
}
  where
    by_cause : (o : Option Point) → IsDue u w o states → IsDue (with_end u how) w o states
    by_cause None due = due
    by_cause (Some point) due = due

-- ---- others' entries came

due_on : (u : Underway) (w : Waiting) (later : List History) (behind : List ClockEvent) (call : Call) (states : List State) (late : Option Point) → HaveGrown u.parts u.clock later behind → IsDue u w late states
    → IsDue (record u { parts = later; clock = behind; call = call }) w late states
due_on u w later behind call states None grown due = due
due_on u w later behind call states (Some point) grown due =
    carried_on u.config u.parts later u.clock behind (λ account. IsClockLook account point × IsOverdue w.operation (moment_at account point)) grown due

pub others_finishing : (u : Underway) (w : Waiting) (late : Option Point) (states : List State) (later : List History) (behind : List ClockEvent) → HaveGrown u.parts u.clock later behind
    → OwnWithin u.number u.parts u.clock later behind → AreHistories u.config later behind → IsFinishing u w late states → IsFinishing (record u { parts = later; clock = behind }) w late states
others_finishing u w late states later behind grown within histories h = record {
  delayed = others_delayed u w later behind grown within histories h.delayed;
  looks = h.looks;
  finish = h.finish;
  each = carried_on u.config u.parts later u.clock behind (λ account. AllZip (IsLook account) (take (length states) (operation_parts w.steps)) h.looks) grown h.each;
  seen = carried_on u.config u.parts later u.clock behind (λ account. map (at_point account) h.looks ≡ states) grown h.seen;
  due = due_on u w later behind u.call states late grown h.due;
}

-- ---- the clock is looked at first

pub finishing_late : (u : Underway) (w : Waiting) → IsDelayed u w → u.call.finish ≡ [] → w.operation.deadline ≤ moment_of u.clock → IsFinishing (late_seen u) w (Some (clock_point u.clock)) []
finishing_late u w h unfinished overdue =
    let event : ClockEvent = clocks.Look u.number (seq_of u) in
    let behind = u.clock ++ event ∷ [] in
    let grown : HaveGrown u.parts u.clock u.parts behind = grown_clock u.parts u.parts u.clock event (all_longer_self u.parts) in
    let points : points_of u.call ++ clock_point u.clock ∷ [] ≡ u.call.accept ++ (u.call.finish ++ clock_point u.clock ∷ []) = append_assoc u.call.accept u.call.finish (clock_point u.clock ∷ []) in
    record {
      delayed = delayed_on u w u.parts behind (u.call.finish ++ clock_point u.clock ∷ []) h grown (histories_looked u.config u.parts u.clock u.number (seq_of u) h.underway.histories)
          (subst (λ (ps : List Point). OwnsInTime u.number u.parts behind (map points_of (earlier_calls u) ++ ps ∷ [])) points
          (in_time_look u.parts u.clock u.number (seq_of u) (map points_of (earlier_calls u)) (points_of u.call) (is_seq u) (omega (arith, h.underway.histories.few))
          (record { own = h.underway.own; timely = h.underway.timely })));
      looks = [];
      finish = ap (λ (ps : List Point). ps ++ clock_point u.clock ∷ []) unfinished;
      each = λ account on. tt;
      seen = λ account on. refl;
      due = λ account on.
          let moment : moment_at account (clock_point u.clock) ≡ moment_of u.clock = clock_moment u.config u.parts u.clock event account on ∙ looked_moment u.clock u.number (seq_of u) in
          (clock_looked u.config u.parts u.clock u.number (seq_of u) account on, subst (λ (m : ℕ). IsOverdue w.operation m) (sym moment) overdue);
    }

-- ---- a partition is looked at

module _ (u : Underway) (w : Waiting) (late : Option Point) (states : List State) (h : IsFinishing u w late states) (part : ℕ) (next : slice_get (operation_parts w.steps) (length states) ≡ Some part) where
  abbrev found : History
  found = history_at u.parts part

  abbrev looked : List History
  looked = set u.parts part (entered found u.number (seq_of u) (moment_of u.clock) Looked)

  abbrev point : Point
  point = record { part = part; place = length found.events }

  abbrev decision : Decision
  decision = AskLog part (λ state. look (Seen part 0))

  few : length u.parts ≤ 64
  few = omega (arith, h.delayed.underway.histories.few)

  there : part < length u.parts
  there = all_get (λ (x : ℕ). x < length u.parts) (operation_parts w.steps) (length states) part h.delayed.within next

  fair : IsFair (length u.parts) decision
  fair = (there, λ state. (tt, there))

  grown : HaveGrown u.parts u.clock looked u.clock
  grown = grown_parts u.parts looked u.clock (accepted_longer u.number (seq_of u) (moment_of u.clock) (length u.parts) (decision ∷ []) u.parts refl (fair, tt))

  next_taken : take (length (states ++ state_of found ∷ [])) (operation_parts w.steps) ≡ take (length states) (operation_parts w.steps) ++ part ∷ []
  next_taken =
      let one : length (states ++ state_of found ∷ []) ≡ suc (length states) = length-append states (state_of found ∷ []) ∙ omega arith in
      ap (λ (n : ℕ). take n (operation_parts w.steps)) one ∙ take_next (operation_parts w.steps) (length states) part next

  -- what every account shows of it
  looks_at : (account : Account) → GoesOn u.config looked u.clock account → IsLook account part point × (at_point account point ≡ state_of found)
  looks_at account on =
      let shows = accepted_shows u.number (seq_of u) (moment_of u.clock) (length u.parts) (decision ∷ []) u.parts account refl few h.delayed.underway.histories.whole (fair, tt) on.follows in
      let asks = shows.steps.0 in
      let is : asks.point ≡ point = first_point asks.left in (
        subst (IsLook account part) is (asks.there, asks.entry.0, asks.entry.1, asks.entry.2),
        ap first_state shows.shown ∙ looked_state found u.number (seq_of u),
      )
    where
      first_state : List Shown → State
      first_state [] = no_state
      first_state (s ∷ shown) = s.state

      first_point : {x y : Point} → Some y ≡ Some x → x ≡ y
      first_point e = cc

  pub finishing_on : (late ≡ None → length (states ++ state_of found ∷ []) ≡ length (operation_parts w.steps) → IsSatisfied w.operation (values_of w.request.ask (shown_with w.steps (states ++ state_of found ∷ []))))
      → IsFinishing (part_seen u part) w late (states ++ state_of (history_at u.parts part) ∷ [])
  finishing_on enough =
      let points : points_of u.call ++ point ∷ [] ≡ u.call.accept ++ (u.call.finish ++ point ∷ []) = append_assoc u.call.accept u.call.finish (point ∷ []) in
      record {
        delayed = delayed_on u w looked u.clock (u.call.finish ++ point ∷ []) h.delayed grown (histories_carried u.config u.parts u.clock u.number (seq_of u) (moment_of u.clock) decision h.delayed.underway.histories fair)
            (subst (λ (ps : List Point). OwnsInTime u.number looked u.clock (map points_of (earlier_calls u) ++ ps ∷ [])) points
            (in_time_carried u.parts u.clock u.number (seq_of u) decision (map points_of (earlier_calls u)) (points_of u.call) (is_seq u) few fair
            (record { own = h.delayed.underway.own; timely = h.delayed.underway.timely })));
        looks = h.looks ++ point ∷ [];
        finish = ap (λ (ps : List Point). ps ++ point ∷ []) h.finish ∙ append_assoc (option_to_list late) h.looks (point ∷ []);
        each = λ account on.
            subst (λ (ps : List ℕ). AllZip (IsLook account) ps (h.looks ++ point ∷ [])) (sym next_taken)
            (zip_append (IsLook account) (take (length states) (operation_parts w.steps)) h.looks (part ∷ []) (point ∷ []) (h.each account (goes_back u.config u.parts looked u.clock u.clock account grown on)) ((looks_at account on).0, tt));
        seen = λ account on.
            map-append (at_point account) h.looks (point ∷ [])
            ∙ ap (λ (ss : List State). ss ++ at_point account point ∷ []) (h.seen account (goes_back u.config u.parts looked u.clock u.clock account grown on))
            ∙ ap (λ (s : State). states ++ s ∷ []) (looks_at account on).1;
        due = by_cause late h.due enough;
      }
    where
      by_cause : (o : Option Point) → IsDue u w o states → (o ≡ None → length (states ++ state_of found ∷ []) ≡ length (operation_parts w.steps) → IsSatisfied w.operation (values_of w.request.ask (shown_with w.steps (states ++ state_of found ∷ []))))
          → IsDue (part_seen u part) w o (states ++ state_of found ∷ [])
      by_cause None due all = all refl
      by_cause (Some clock) due all = carried_on u.config u.parts looked u.clock u.clock (λ account. IsClockLook account clock × IsOverdue w.operation (moment_at account clock)) grown due

-- ---- what is shown at the looks

pub shown_completed : (account : Account) (steps : List Step) (points : List Point) → shown_as_completed account steps points ≡ shown_with steps (map (at_point account) points)
shown_completed account [] points = refl
shown_completed account (step ∷ steps) [] = ap (λ (ss : List Shown). record { result = step.result; state = no_state } ∷ ss) (shown_completed account steps [])
shown_completed account (step ∷ steps) (point ∷ points) =
    let first : Shown = record { result = step.result; state = no_state } in
    let seen : Shown = record { result = step.result; state = at_point account point } in
    ap (λ (ss : List Shown). by_part (part_in step.result) (first ∷ ss) (seen ∷ shown_as_completed account steps points)) (shown_completed account steps (point ∷ points))
    ∙ ap (λ (ss : List Shown). by_part (part_in step.result) (first ∷ shown_with steps (at_point account point ∷ map (at_point account) points)) (seen ∷ ss)) (shown_completed account steps points)

module _ (u : Underway) (w : Waiting) (states : List State) where
  -- the states at its looks, as an account shows them
  satisfied_at : (account : Account) (looks finish : List Point) → IsDelayedAs w u.call account → map (at_point account) finish ≡ states → IsSatisfied w.operation (values_of w.request.ask (shown_with w.steps states))
      → (d : IsDelayedAs w u.call account) → IsSatisfied (operation_in account w.request w.steps d.looks) (values_of w.request.ask (shown_as_completed account w.steps finish))
  satisfied_at account looks finish first seen enough d =
      subst (λ (op : Operation). IsSatisfied op (values_of w.request.ask (shown_as_completed account w.steps finish))) (sym d.operation)
      (subst (λ (ss : List Shown). IsSatisfied w.operation (values_of w.request.ask ss)) (sym (shown_completed account w.steps finish ∙ ap (shown_with w.steps) seen)) enough)

  all_looks : (account : Account) (looks : List Point) → length states ≡ length (operation_parts w.steps) → AllZip (IsLook account) (take (length states) (operation_parts w.steps)) looks → AreLooks account w.steps looks
  all_looks account looks all each =
      subst (λ (ps : List ℕ). AllZip (IsLook account) ps looks) (ap (λ (n : ℕ). take n (operation_parts w.steps)) all ∙ take-length (operation_parts w.steps)) each

  -- ---- its end: cut off, satisfied or expired

  module _ (by : ℕ) where
    cut_lawful : (late : Option Point) (h : IsFinishing u w late states) → u.call.how ≡ Cut (Some by) → IsFinished u.config u.parts u.clock u.call
    cut_lawful None h how = record {
      unparked = λ parked. let other : Cut (Some by) ≡ Parked = sym how ∙ parked in absurd cc;
      lawful = λ account on.
          let d = h.delayed.delayed account on in
          let seen = h.seen account on in
          let as_cut : IsCutAsSatisfied account w.request w.steps d.looks h.looks = record {
            first = (length states, h.each account on);
            satisfied = λ (all : AreLooks account w.steps h.looks).
                let size : length states ≡ length (operation_parts w.steps) = ap length (sym seen) ∙ length-map h.looks (at_point account) ∙ AllZip-long (IsLook account) (operation_parts w.steps) h.looks all in
                satisfied_at account h.looks h.looks d seen (h.due size) d;
          } in
          inl (record {
            whole = record { request = w.request; steps = w.steps; looks = d.looks; accepted = d.accepted; entries = d.entries };
            completed = subst (λ (end : CallHow). Completes account w.request w.steps d.looks u.call.finish end) (sym how)
                (subst (λ (ps : List Point). Completes account w.request w.steps d.looks ps (Cut (Some by))) (sym h.finish) (d.delayed, inl as_cut));
          });
    }
    cut_lawful (Some at_clock) h how = record {
      unparked = λ parked. let other : Cut (Some by) ≡ Parked = sym how ∙ parked in absurd cc;
      lawful = λ account on.
          let d = h.delayed.delayed account on in
          let due = h.due account on in
          let as_cut : IsCutAsExpired account w.request w.steps d.looks (at_clock ∷ h.looks) = record {
            first = (due.0, (length states, h.each account on));
            overdue = subst (λ (op : Operation). IsOverdue op (moment_at account at_clock)) (sym d.operation) due.1;
          } in
          inl (record {
            whole = record { request = w.request; steps = w.steps; looks = d.looks; accepted = d.accepted; entries = d.entries };
            completed = subst (λ (end : CallHow). Completes account w.request w.steps d.looks u.call.finish end) (sym how)
                (subst (λ (ps : List Point). Completes account w.request w.steps d.looks ps (Cut (Some by))) (sym h.finish) (d.delayed, inr as_cut));
          });
    }

    pub finishing_cut : (late : Option Point) → IsFinishing u w late states → u.call.how ≡ Cut (Some by) → IsBook (book_amid u) None
    finishing_cut late h how = amid_book u h.delayed.underway (cut_lawful late h how)

    pub finishing_satisfied : IsFinishing u w None states → length states ≡ length (operation_parts w.steps) → u.call.how ≡ Satisfied by → IsBook (book_amid u) None
    finishing_satisfied h all how = amid_book u h.delayed.underway (record {
      unparked = λ parked. let other : Satisfied by ≡ Parked = sym how ∙ parked in absurd cc;
      lawful = λ account on.
          let d = h.delayed.delayed account on in
          inl (record {
            whole = record { request = w.request; steps = w.steps; looks = d.looks; accepted = d.accepted; entries = d.entries };
            completed = subst (λ (end : CallHow). Completes account w.request w.steps d.looks u.call.finish end) (sym how)
                (subst (λ (ps : List Point). Completes account w.request w.steps d.looks ps (Satisfied by)) (sym h.finish)
                (d.delayed, all_looks account h.looks all (h.each account on), satisfied_at account h.looks h.looks d (h.seen account on) (h.due all) d));
          });
    })

    pub finishing_expired : (point : Point) → IsFinishing u w (Some point) states → length states ≡ length (operation_parts w.steps) → u.call.how ≡ Expired by → IsBook (book_amid u) None
    finishing_expired point h all how = amid_book u h.delayed.underway (record {
      unparked = λ parked. let other : Expired by ≡ Parked = sym how ∙ parked in absurd cc;
      lawful = λ account on.
          let d = h.delayed.delayed account on in
          let due = h.due account on in
          inl (record {
            whole = record { request = w.request; steps = w.steps; looks = d.looks; accepted = d.accepted; entries = d.entries };
            completed = subst (λ (end : CallHow). Completes account w.request w.steps d.looks u.call.finish end) (sym how)
                (subst (λ (ps : List Point). Completes account w.request w.steps d.looks ps (Expired by)) (sym h.finish)
                (d.delayed, (due.0, all_looks account h.looks all (h.each account on)), subst (λ (op : Operation). IsOverdue op (moment_at account point)) (sym d.operation) due.1));
          });
    })
