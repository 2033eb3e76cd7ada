-- The pass of the clock, as it tells a moment.
use Rattle.std.proofs.Common.{◌≡◌, ◌∙◌, ℕ, suc, ◌<◌, ◌≤◌, Bool, cond, ltb, List, [], ◌∷◌, ◌++◌, fold, get_or, length, max, refl, sym, ap, subst, arith, inl, inr}
use Rattle.std.specs.Prelude.{All, Contains, Some}
use Rattle.std.specs.List.{filter_map}
use Rattle.std.specs.List.Sorted.{IsStrictlyIncreasing}
use Rattle.std.proofs.Math.Seq.{get_or-append_seam}
use Rattle.std.proofs.lemmas.Bool.{cases_lt, le-ltb, lt-ltb}
use Rattle.std.proofs.lemmas.List.{append-nil, get_or_append_left, get_or_default, length-append, same_from_push}
use Rattle.std.proofs.lemmas.List.Kept.{AllPairs-from_increasing}
use Rattle.partlog.specs.declared.clock_event.ClockEvent.{ClockEvent}
use Rattle.partlog.specs.declared.clock_event.ClockEvent.TheVariants.{Tick, Look}
use Rattle.partlog.specs.Moment.{moment_of, tick_of}
use Rattle.audit.specs.Histories.{ticks_of}
use Rattle.shared_logs.specs.Seen.{HasSeen}
use Rattle.shared_logs.specs.Shrinking.{HasPartlyTold}
use Rattle.shared_broker.specs.Passes.{BrokerView, PassView, made_with}
use Rattle.shared_broker.specs.Sessions.{HasPartlyToldClock, HasToldClock}
use Rattle.trace_file.specs.Contents.{rising_from}
use Rattle.trace_file.specs.declared.line.Line.{Line}
use Rattle.trace_file.specs.declared.line.Line.TheVariants.{Clock}
use Rattle.trace_workers.specs.Workers.{HasDone, HasToldAll, IfClock, WorkerView}
use Rattle.trace_workers.proofs.Workers.{done_clock}
use Rattle.trace_workers.proofs.Moments.{latest_from, risen, stayed}

-- ---- the ticks of a history

pub ticks_after : (xs ys : List ClockEvent) → ticks_of (xs ++ ys) ≡ ticks_of xs ++ ticks_of ys
ticks_after [] ys = refl
ticks_after (Tick t ∷ xs) ys = ap (λ (ts : List ℕ). t ∷ ts) (ticks_after xs ys)
ticks_after (Look by seq ∷ xs) ys = ticks_after xs ys

told_ticks : (events : List ClockEvent) → filter_map tick_of events ≡ ticks_of events
told_ticks [] = refl
told_ticks (Tick t ∷ events) = ap (λ (ts : List ℕ). t ∷ ts) (told_ticks events)
told_ticks (Look by seq ∷ events) = told_ticks events

pub moment_is : (events : List ClockEvent) → moment_of events ≡ fold max 0 (ticks_of events)
moment_is events = ap (fold max 0) (told_ticks events)

-- numbers that rise, of which each stands in a front, are that front
pub none_more : (front more : List ℕ) → IsStrictlyIncreasing (0 ∷ front ++ more) → All (Contains front) (front ++ more) → more ≡ []
none_more front [] up all = refl
none_more front (m ∷ ms) up all =
    let whole = front ++ m ∷ ms in
    let within : length front < length whole = omega (arith, length-append front (m ∷ ms)) in
    let there : Contains front m = subst (Contains front) (get_or-append_seam front m ms 0) (all (length front) 0 within) in
    let less = there.1 in
    let before : get_or whole there.0 0 ≡ m = get_or_append_left front (m ∷ ms) 0 there.0 less ∙ get_or_default front there.0 0 m less ∙ there.2 in
    let rises = AllPairs-from_increasing (0 ∷ whole) up (suc there.0) (suc (length front)) 0 (omega (arith, less)) (omega (arith, within)) in
    absurd (omega (arith, rises, before, get_or-append_seam front m ms 0))

-- a history that only others went on with has no ticks but the pass's own only where it had none before
pub own_alone : (seen more : List ClockEvent) (own : List ℕ) → IsStrictlyIncreasing (0 ∷ own) → All (Contains (ticks_of seen)) own → ticks_of (seen ++ more) ≡ own → ticks_of seen ≡ own
own_alone seen more own up all same =
    let parts : ticks_of seen ++ ticks_of more ≡ own = sym (ticks_after seen more) ∙ same in
    let none : ticks_of more ≡ [] = none_more (ticks_of seen) (ticks_of more)
    (subst (λ (ts : List ℕ). IsStrictlyIncreasing (0 ∷ ts)) (sym parts) up)
    (subst (All (Contains (ticks_of seen))) (sym parts) all) in
    sym (append-nil (ticks_of seen)) ∙ ap (λ (ts : List ℕ). ticks_of seen ++ ts) (sym none) ∙ parts

-- ---- a moment is told

module _ (t : ℕ) (before : List Line) (old : PassView) (seen : HasSeen old.logs) (said : ticks_of old.logs.clock ≡ old.logs.ticked → old.logs.ticked ≡ rising_from 0 before) where
  own_before : (found more : List ClockEvent) → found ≡ old.logs.clock ++ more → ticks_of found ≡ old.logs.ticked → old.logs.ticked ≡ rising_from 0 before
  own_before found more is same =
      said (own_alone old.logs.clock more old.logs.ticked seen.rising seen.ticked (ap ticks_of (sym is) ∙ same))

  latest_is : (found : List ClockEvent) → ticks_of found ≡ old.logs.ticked → old.logs.ticked ≡ rising_from 0 before → moment_of found ≡ latest_from 0 before
  latest_is found same told = moment_is found ∙ ap (fold max 0) (same ∙ told)

  rose : (found more clock : List ClockEvent) (ticked : List ℕ) → found ≡ old.logs.clock ++ more → clock ≡ found ++ Tick t ∷ [] → ticked ≡ old.logs.ticked ++ t ∷ [] → moment_of found < t
      → ticks_of clock ≡ ticked → ticked ≡ rising_from 0 (before ++ Clock t ∷ [])
  rose found more clock ticked is clock_is ticked_is less all =
      let parts : ticks_of found ++ t ∷ [] ≡ old.logs.ticked ++ t ∷ [] = sym (ticks_after found (Tick t ∷ [])) ∙ ap ticks_of (sym clock_is) ∙ all ∙ ticked_is in
      let same : ticks_of found ≡ old.logs.ticked = (same_from_push (ticks_of found) old.logs.ticked t t parts).0 in
      let told = own_before found more is same in
      let top : moment_of found ≡ latest_from 0 before = latest_is found same told in
      ticked_is ∙ ap (λ (ts : List ℕ). ts ++ t ∷ []) told ∙ sym (risen before t (omega (arith, top, less)))

  stood : (found more clock : List ClockEvent) (ticked : List ℕ) → found ≡ old.logs.clock ++ more → clock ≡ found → ticked ≡ old.logs.ticked → t ≤ moment_of found
      → ticks_of clock ≡ ticked → ticked ≡ rising_from 0 (before ++ Clock t ∷ [])
  stood found more clock ticked is clock_is ticked_is le all =
      let same : ticks_of found ≡ old.logs.ticked = ap ticks_of (sym clock_is) ∙ all ∙ ticked_is in
      let told = own_before found more is same in
      let top : moment_of found ≡ latest_from 0 before = latest_is found same told in
      ticked_is ∙ told ∙ sym (stayed before t (omega (arith, top, le)))

pub told_tick : (broker : BrokerView) (before : List Line) (t : ℕ) (old new : PassView) → HasSeen old.logs → HasToldClock t old new → HasToldAll broker before old → HasToldAll broker (before ++ Clock t ∷ []) new
told_tick broker before t old new seen tick h =
    let told = tick.told.told in
    let shrunk = tick.told.shrunk in
    let is = tick.else_as_before in
    let found = told.found in
    let more = told.others.grown.more in
    let goes_on = told.others.grown.events in
    let clock : new.logs.clock ≡ cond (ltb (moment_of found) t) (found ++ Tick t ∷ []) found = tick.settled.clock ∙ shrunk.clock ∙ told.clock in
    let made : new.logs.made ≡ old.logs.made = tick.settled.made ∙ shrunk.same.made ∙ told.same.made in
    record {
      made = ap made_with is ∙ ap (λ m. made_with (record old { logs = record old.logs { made = m } })) made ∙ h.made;
      ended = ap (λ (p : PassView). p.ended) is ∙ h.ended;
      going = ap (λ (p : PassView). p.going) is ∙ h.going;
      waits = ap (λ (p : PassView). p.waits) is ∙ h.waits;
      told = elim (cases_lt (moment_of found) t) [
        | inl less ↦
            rose t before old seen h.told found more new.logs.clock new.logs.ticked goes_on (clock ∙ ap (λ (b : Bool). cond b (found ++ Tick t ∷ []) found) (lt-ltb (moment_of found) t less)) (tick.settled.ticked ∙ shrunk.ticked ∙ told.added less) less
        | inr le ↦
            stood t before old seen h.told found more new.logs.clock new.logs.ticked goes_on (clock ∙ ap (λ (b : Bool). cond b (found ++ Tick t ∷ []) found) (le-ltb (moment_of found) t le)) (tick.settled.ticked ∙ shrunk.ticked ∙ told.stood le) le
      ];
    }

-- ---- it is the same pass

pub told_number : (t : ℕ) (old new : PassView) → HasToldClock t old new → new.logs.number ≡ old.logs.number
told_number t old new h = h.settled.number ∙ h.told.shrunk.same.number ∙ h.told.told.same.number

pub partly_number : (t : ℕ) (old new : PassView) → HasPartlyToldClock t old new → new.logs.number ≡ old.logs.number
partly_number t old new h = h.settled.number ∙ by_told h.told
  where
    by_told : HasPartlyTold t old.logs h.between → h.between.number ≡ old.logs.number
    by_told (inl came) = came.same.number
    by_told (inr risen) = risen.shrunk.same.number ∙ risen.told.same.number

-- ---- the worker of the pass

pub tick_worker : (broker : BrokerView) (before : List Line) (t : ℕ) (worker old : WorkerView) (pass new : PassView) → worker ≡ old → worker.clock ≡ Some pass → HasSeen pass.logs → HasToldClock t pass new → HasDone broker before old
    → HasDone broker (before ++ Clock t ∷ []) (record worker { clock = Some new })
tick_worker broker before t worker old pass new view is seen tick h =
    let here = subst (HasDone broker before) (sym view) h in
    done_clock broker before t worker new
    (told_tick broker before t pass new seen tick (subst (IfClock (HasToldAll broker before)) is here.clock)) here
