-- All sessions and the clock in one hand, as one of the sessions goes on and as the clock does.
use Rattle.std.proofs.Common.{◌≡◌, ◌∙◌, ℕ, ◌+◌, ◌<◌, Bool, true, MatchBool, List, [], ◌∷◌, ◌++◌, drop, fold, get_or, length, map, max, set, take, refl, sym, ap, subst, inl, inr, cond, ltb}
use Rattle.std.proofs.lemmas.Bool.{cases_lt, le-ltb, lt-ltb}
use Rattle.std.proofs.lemmas.List.{append_assoc, length-set, map-append, same_from_push, take_at}
use Rattle.std.proofs.lemmas.List.Elements.{All-set}
use Rattle.partlog.specs.declared.clock_event.ClockEvent.TheVariants.{Tick}
use Rattle.partlog.specs.Moment.{moment_of}
use Rattle.audit.specs.Histories.{ticks_of}
use Rattle.shared_broker.specs.Passes.{BrokerView, PassView}
use Rattle.shared_broker.specs.Sessions.{HasToldClock}
use Rattle.shared_logs.specs.Seen.{HasSeen}
use Rattle.trace_file.specs.declared.line.Line.{Line}
use Rattle.trace_file.specs.declared.line.Line.TheVariants.{Clock}
use Rattle.trace_workers.specs.Received.{HasReceived}
use Rattle.trace_workers.specs.Sessions.{IsSameSession, SessionView}
use Rattle.trace_workers.specs.declared.joined.TheConstants.{DRAIN_STEP}
use Rattle.trace_workers.specs.Joined.{JoinedView, HasJoined, HasRun}
use Rattle.trace_workers.specs.WorkerRun.{AreSeconds, last_moment}
use Rattle.trace_workers.proofs.Places.{any_with}
use Rattle.trace_workers.proofs.Seconds.{last_of, latest_second, seconds_more}
use Rattle.trace_workers.specs.Workers.{HasTaken, HasToldAll}
use Rattle.trace_workers.proofs.Clocks.{own_alone, ticks_after, told_number, told_tick}
use Rattle.trace_workers.proofs.Untouched.{taken_on, taken_past}

-- ---- one session goes on

abbrev pub with_session : JoinedView → ℕ → SessionView → JoinedView
with_session joined at s = record joined { sessions = set joined.sessions at s }

pub step_joined : (broker : BrokerView) (lines : List Line) (count : ℕ) (joined : JoinedView) (at : ℕ) (d s : SessionView) → at < length joined.sessions → IsSameSession (get_or joined.sessions at d) s
    → s.is_named ≡ (get_or joined.sessions at d).is_named → s.is_shut ≡ (get_or joined.sessions at d).is_shut
    → ((input : List ℕ) → HasReceived input (get_or joined.sessions at d) → HasReceived input s) → HasJoined broker lines count joined → HasJoined broker lines count (with_session joined at s)
step_joined broker lines count joined at d s there same named shut goes h = record {
  sessions = All-set (HasTaken broker lines) joined.sessions at s (taken_on broker lines (get_or joined.sessions at d) s (h.sessions at d there) same named shut goes) h.sessions;
  size = length-set joined.sessions at s ∙ h.size;
  each = λ number less. any_with (λ (x : SessionView). x.number) joined.sessions at d s number there same.number (h.each number less);
  clock = h.clock;
  number = h.number;
}

-- the items that were lent stand in their places again
pub one_written : (old lent : List SessionView) (at : ℕ) (s : SessionView) → lent ≡ old → take (length old) (set lent at s ++ drop (length (set lent at s)) old) ≡ set old at s
one_written old lent at s e = take_at (set lent at s) (drop (length (set lent at s)) old) (length old) (length-set lent at s ∙ ap length e) ∙ ap (λ (xs : List SessionView). set xs at s) e

-- what is so of joined sessions with one of them changed is so of it as it is shown again
pub lent_on : (Q : JoinedView → JoinedView → Type 0) (joined old : JoinedView) (lent : List SessionView) (at : ℕ) (s : SessionView) → joined ≡ old → lent ≡ joined.sessions → Q joined (with_session joined at s)
    → Q old (record joined { sessions = take (length joined.sessions) (set lent at s ++ drop (length (set lent at s)) joined.sessions) })
lent_on Q joined old lent at s view value q =
    subst (λ (x : JoinedView). Q x (record joined { sessions = take (length joined.sessions) (set lent at s ++ drop (length (set lent at s)) joined.sessions) })) view
    (subst (λ (xs : List SessionView). Q joined (record joined { sessions = xs })) (sym (one_written joined.sessions lent at s value)) q)

-- ---- a run goes on

-- the clock stands
pub run_on : (broker : BrokerView) (lines : List Line) (count : ℕ) (drain : Bool) (old new : JoinedView) → new.clock ≡ old.clock
    → ((all : List Line) (n : ℕ) → HasJoined broker all n old → HasJoined broker all n new) → HasRun broker lines count drain old → HasRun broker lines count drain new
run_on broker lines count drain old new clock goes h = record {
  added = h.added;
  whole = goes (lines ++ map Clock h.added) count h.whole;
  told = subst (λ (pass : PassView). MatchBool drain (ticks_of pass.logs.clock ≡ pass.logs.ticked → AreSeconds (last_moment lines) h.added) (h.added ≡ [])) (sym clock) h.told;
}

-- ---- the clock goes on

-- where nobody else told it anything as far as the pass has seen, so it was before
alone_before : (t : ℕ) (old new : PassView) → HasSeen old.logs → HasToldClock t old new → ticks_of new.logs.clock ≡ new.logs.ticked → ticks_of old.logs.clock ≡ old.logs.ticked
alone_before t old new seen tick all =
    let told = tick.told.told in
    let shrunk = tick.told.shrunk in
    let found = told.found in
    let more = told.others.grown.more in
    let clock : new.logs.clock ≡ cond (ltb (moment_of found) t) (found ++ Tick t ∷ []) found = tick.settled.clock ∙ shrunk.clock ∙ told.clock in
    let same : ticks_of found ≡ old.logs.ticked = elim (cases_lt (moment_of found) t) [
      | inl less ↦
          let is : new.logs.clock ≡ found ++ Tick t ∷ [] = clock ∙ ap (λ (b : Bool). cond b (found ++ Tick t ∷ []) found) (lt-ltb (moment_of found) t less) in
          (same_from_push (ticks_of found) old.logs.ticked t t
          (sym (ticks_after found (Tick t ∷ [])) ∙ ap ticks_of (sym is) ∙ all ∙ tick.settled.ticked ∙ shrunk.ticked ∙ told.added less)).0
      | inr le ↦
          let is : new.logs.clock ≡ found = clock ∙ ap (λ (b : Bool). cond b (found ++ Tick t ∷ []) found) (le-ltb (moment_of found) t le) in
          ap ticks_of (sym is) ∙ all ∙ tick.settled.ticked ∙ shrunk.ticked ∙ told.stood le
    ] in
    own_alone old.logs.clock more old.logs.ticked seen.rising seen.ticked (ap ticks_of (sym told.others.grown.events) ∙ same)

lines_more : (lines : List Line) (added : List ℕ) (t : ℕ) → lines ++ map Clock added ++ Clock t ∷ [] ≡ lines ++ map Clock (added ++ t ∷ [])
lines_more lines added t =
    append_assoc lines (map Clock added) (Clock t ∷ []) ∙ ap (λ (more : List Line). lines ++ more) (sym (map-append Clock added (t ∷ [])))

tick_joined : (broker : BrokerView) (lines : List Line) (count t : ℕ) (joined : JoinedView) (new : PassView) → HasSeen joined.clock.logs → HasToldClock t joined.clock new → HasJoined broker lines count joined
    → HasJoined broker (lines ++ Clock t ∷ []) count (record joined { clock = new })
tick_joined broker lines count t joined new seen tick h = record {
  sessions = λ k d less. taken_past broker lines (Clock t) (get_or joined.sessions k d) refl (h.sessions k d less);
  size = h.size;
  each = h.each;
  clock = told_tick broker lines t joined.clock new seen tick h.clock;
  number = told_number t joined.clock new tick ∙ h.number;
}

second_is : (broker : BrokerView) (lines : List Line) (added : List ℕ) (t : ℕ) (pass : PassView) → HasToldAll broker (lines ++ map Clock added) pass → ticks_of pass.logs.clock ≡ pass.logs.ticked → AreSeconds (last_moment lines) added
    → t ≡ fold max 0 pass.logs.ticked + DRAIN_STEP → t ≡ last_of (last_moment lines) added + DRAIN_STEP
second_is broker lines added t pass h alone seconds e =
    e ∙ ap (λ (n : ℕ). n + DRAIN_STEP) (ap (fold max 0) (h.told alone) ∙ latest_second lines added seconds)

-- a second behind all that it told
pub tick_run : (broker : BrokerView) (lines : List Line) (count t : ℕ) (joined : JoinedView) (new : PassView) → HasSeen joined.clock.logs → HasToldClock t joined.clock new → t ≡ fold max 0 joined.clock.logs.ticked + DRAIN_STEP
    → HasRun broker lines count true joined → HasRun broker lines count true (record joined { clock = new })
tick_run broker lines count t joined new seen tick e h = record {
  added = h.added ++ t ∷ [];
  whole = subst (λ (all : List Line). HasJoined broker all count (record joined { clock = new })) (lines_more lines h.added t)
      (tick_joined broker (lines ++ map Clock h.added) count t joined new seen tick h.whole);
  told = λ all.
      let alone = alone_before t joined.clock new seen tick all in
      let seconds = h.told alone in
      seconds_more (last_moment lines) h.added t seconds (second_is broker lines h.added t joined.clock h.whole.clock alone seconds e);
}
