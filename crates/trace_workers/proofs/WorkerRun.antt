-- The account of joined sessions that came to rest is that of a run of their lines.
use Rattle.std.proofs.Common.{◌≡◌, ◌∙◌, ℕ, ◌+◌, ◌<◌, Bool, true, false, List, [], ◌∷◌, ◌++◌, MatchBool, Option, Some, None, drop, length, map, refl, sym, ap, subst, arith}
use Rattle.std.specs.Prelude.{All, option_to_list, slice_get}
use Rattle.std.specs.List.{AllByRecursion}
use Rattle.std.proofs.lemmas.List.{length-append, length-map}
use Rattle.std.proofs.lemmas.List.Elements.{All-contains, All-map, All-pop}
use Rattle.audit.specs.declared.account.Account.{Account}
use Rattle.audit.specs.declared.account.Call.{Call}
use Rattle.audit.specs.declared.account.Transcript.{Transcript}
use Rattle.audit.specs.Histories.{all_calls, calls_in, ticks_of}
use Rattle.audit.specs.IsLawful.{FollowOn}
use Rattle.audit.specs.RunOf.{IsNotCut, IsSessionOf}
use Rattle.audit.specs.broker.GoesOn.{GoesOn}
use Rattle.audit.proofs.broker.Laws.{all_get}
use Rattle.audit.specs.broker.books.Told.{told}
use Rattle.shared_broker.specs.Closing.{IsAccountOf}
use Rattle.shared_broker.specs.Standing.{Stands}
use Rattle.shared_broker.specs.Passes.{BrokerView, PassView, transcripts_of}
use Rattle.shared_logs.specs.Seen.{HasSeen}
use Rattle.trace_file.specs.Contents.{configuration_of, input_of, is_named, rising_from, sessions_of}
use Rattle.trace_file.specs.declared.line.Line.{Line}
use Rattle.trace_file.specs.declared.line.Line.TheVariants.{Clock}
use Rattle.trace_workers.specs.Resting.{Rests}
use Rattle.trace_workers.specs.Sessions.{SessionView}
use Rattle.trace_workers.specs.Workers.{HasTaken}
use Rattle.trace_workers.specs.Playable.{AreTraced}
use Rattle.trace_workers.proofs.Clocks.{own_alone}
use Rattle.trace_workers.proofs.Moments.{rising_after}
use Rattle.trace_workers.specs.declared.played.Played.{Played}
use Rattle.trace_workers.specs.Closed.{CameTo}
use Rattle.trace_workers.specs.Joined.{JoinedView, HasCome, HasJoined, passes_in}
use Rattle.trace_workers.specs.WorkerRun.{AreSeconds, IsWorkerRun, NobodyWaits, last_moment}
use Rattle.trace_workers.proofs.Alone.{IsNotParked, session_of, taken_before, told_of, uncut_calls, unparked_calls}
use Rattle.trace_workers.proofs.Places.{all_of_map, by_place, drop_last, of_calls}
use Rattle.trace_workers.proofs.Ticks.{added_rise, only_last}

-- ---- the passes in the account

abbrev pass_of : SessionView → PassView
pass_of s = s.pass

-- all passes are those of the sessions, and that of the clock
pub split : (P : PassView → Type 0) (joined : JoinedView) → All P (passes_in joined) → All (λ (s : SessionView). P s.pass) joined.sessions × P joined.clock
split P joined all =
    let parts = All-pop P (passes_in joined) (map pass_of joined.sessions) (Some joined.clock) refl all in
    (all_of_map P pass_of joined.sessions parts.0, parts.1)

-- a session that rests, and what the account has of it
pub record HasSession (broker : BrokerView) (lines : List Line) (drain : Bool) (account : Account) (number : ℕ) : Type 0 where
  pub session : SessionView
  pub number_is : session.number ≡ number
  pub taken : HasTaken broker lines session
  pub rests : Rests session
  pub drained : drain ≡ true → session.pass.waits ≡ None
  pub there : slice_get account.passes number ≡ Some (told_of session)

-- the account has the transcripts of the pass under its number
abbrev pub IsListedIn : Account → PassView → Type 0
IsListedIn account pass = slice_get account.passes pass.logs.number ≡ Some (map told (transcripts_of pass))

-- what the account has of all passes
pub record HasAllPasses (broker : BrokerView) (lines : List Line) (count : ℕ) (drain : Bool) (account : Account) : Type 0 where
  pub size : length account.passes ≡ count + 1
  pub sessions : (number : ℕ) → number < count → HasSession broker lines drain account number
  pub clock : slice_get account.passes count ≡ Some []

pub has_passes : (broker : BrokerView) (lines : List Line) (added : List ℕ) (count : ℕ) (drain : Bool) (joined : JoinedView) (account : Account)
    → HasJoined broker (lines ++ map Clock added) count joined → HasCome drain joined → IsAccountOf broker (passes_in joined) account → HasAllPasses broker lines count drain account
has_passes broker lines added count drain joined account whole come is =
    let told_in = split (IsListedIn account) joined is.transcripts in
    record {
      size = is.count ∙ omega (arith, length-append (map pass_of joined.sessions) (joined.clock ∷ []), length-map joined.sessions pass_of, whole.size);
      sessions = λ number less.
          let a = whole.each number less in
          let s = a.1 in
          let taken = All-contains (HasTaken broker (lines ++ map Clock added)) joined.sessions s whole.sessions (a.0, a.2, a.3) in
          record {
            session = s;
            number_is = a.4;
            taken = taken_before broker lines added s taken;
            rests = All-contains Rests joined.sessions s come.rests (a.0, a.2, a.3);
            drained = λ on. All-contains (λ (x : SessionView). x.pass.waits ≡ None) joined.sessions s (come.drained on) (a.0, a.2, a.3);
            there =
                ap (slice_get account.passes) (sym (taken.pass ∙ a.4))
                ∙ All-contains (λ (x : SessionView). IsListedIn account x.pass) joined.sessions s told_in.0 (a.0, a.2, a.3);
          };
      clock =
          ap (slice_get account.passes) (sym whole.number)
          ∙ told_in.1
          ∙ ap (λ (ts : List Transcript). Some (map told (ts ++ option_to_list joined.clock.going))) whole.clock.ended
          ∙ ap (λ (going : Option Transcript). Some (map told (option_to_list going))) whole.clock.going;
    }

module _ (broker : BrokerView) (lines : List Line) (count : ℕ) (drain : Bool) (account : Account) (h : HasAllPasses broker lines count drain account) where
  -- what holds of the calls of each session holds of all
  each_call : (P : Call → Type 0) → ((number : ℕ) → number < count → (s : HasSession broker lines drain account number) → AllByRecursion P (calls_in (told_of s.session))) → AllByRecursion P (all_calls account)
  each_call P each =
      of_calls P account
      (by_place (λ ts. AllByRecursion P (calls_in ts)) account.passes count [] h.size
      (λ number less. let s = h.sessions number less in (told_of s.session, s.there, each number less s)) h.clock tt)

  none_cut : AllByRecursion IsNotCut (all_calls account)
  none_cut = each_call IsNotCut (λ number less s. uncut_calls (input_of s.session.number lines) s.session s.taken.received)

  none_waits : drain ≡ true → AllByRecursion (FollowOn 0) account.passes → NobodyWaits account
  none_waits on follow = each_call IsNotParked (λ number less s.
      unparked_calls (input_of s.session.number lines) s.session s.taken.received (s.drained on) (all_get (FollowOn 0) account.passes number (told_of s.session) follow s.there))

  is_session : (number : ℕ) → number < count → MatchBool (is_named number lines) (IsSessionOf lines account number) (slice_get account.passes number ≡ Some [])
  is_session number less =
      let s = h.sessions number less in
      subst (λ (n : ℕ). MatchBool (is_named n lines) (IsSessionOf lines account n) (slice_get account.passes n ≡ Some [])) s.number_is
      (session_of broker lines account s.session s.taken s.rests (ap (slice_get account.passes) s.number_is ∙ s.there))

-- ---- the ticks

abbrev ticked_by : PassView → List ℕ
ticked_by pass = pass.logs.ticked

-- the clock's pass alone has told moments
module _ (broker : BrokerView) (lines : List Line) (count : ℕ) (joined : JoinedView) (account : Account) (whole : HasJoined broker lines count joined) (is : IsAccountOf broker (passes_in joined) account) where
  seen : HasSeen joined.clock.logs
  seen = (split Stands joined is.stood).1.seen

  ticks_are : ticks_of account.clock ≡ joined.clock.logs.ticked
  ticks_are =
      only_last ticked_by (ticks_of account.clock) (map pass_of joined.sessions) joined.clock is.lawful.entries.ticks seen.rising
      (All-map (λ (p : PassView). ticked_by p ≡ []) pass_of joined.sessions (λ k d less. (whole.sessions k d less).ticked)) is.ticks

  ticks_seen : ticks_of joined.clock.logs.clock ≡ joined.clock.logs.ticked
  ticks_seen =
      let on = (split (λ (p : PassView). GoesOn broker.config p.logs.parts p.logs.clock account) joined is.goes_on).1 in
      own_alone joined.clock.logs.clock on.more joined.clock.logs.ticked seen.rising seen.ticked (sym (ap ticks_of on.events) ∙ ticks_are)

  ticks_rising : ticks_of account.clock ≡ rising_from 0 lines
  ticks_rising = ticks_are ∙ whole.clock.told ticks_seen

-- ---- the whole

-- what is so where a premise holds, as it holds
premised : (P Q R : Type 0) (drain : Bool) → P → MatchBool drain (P → Q) R → MatchBool drain Q R
premised P Q R true p h = h p
premised P Q R false p h = h

beside : (P Q R : Type 0) (drain : Bool) → MatchBool drain P R → (drain ≡ true → Q) → MatchBool drain (P × Q) R
beside P Q R true h q = (h, q refl)
beside P Q R false h q = h

pub worker_run : (broker : BrokerView) (lines : List Line) (port count : ℕ) (drain : Bool) (played : Played) → AreTraced lines → count ≡ sessions_of lines → broker.config ≡ configuration_of port lines
    → CameTo broker lines count drain played → IsWorkerRun lines port drain played.account
worker_run broker lines port count drain played traced same config came =
    let account = played.account in
    let is = came.account_is in
    let run = came.run in
    let whole = run.whole in
    let added = run.added in
    let passes = has_passes broker lines added count drain came.joined account whole came.come is in
    let seen = ticks_seen broker (lines ++ map Clock added) count came.joined account whole is in
    let told : MatchBool drain (AreSeconds (last_moment lines) added) (added ≡ []) =
    premised (ticks_of came.joined.clock.logs.clock ≡ came.joined.clock.logs.ticked) (AreSeconds (last_moment lines) added) (added ≡ []) drain seen run.told in
    record {
      lawful = is.lawful;
      added = added;
      run = record {
        config = is.config ∙ config;
        passes = omega (arith, passes.size, same);
        behind = ap (λ (n : ℕ). drop n account.passes) (sym same) ∙ drop_last account.passes count [] passes.size passes.clock;
        sessions = λ session less. is_session broker lines count drain account passes session (omega (arith, less, same));
        whole = none_cut broker lines count drain account passes;
        ticks =
            ticks_rising broker (lines ++ map Clock added) count came.joined account whole is
            ∙ rising_after 0 lines (map Clock added)
            ∙ ap (λ (ts : List ℕ). rising_from 0 lines ++ ts) (added_rise drain (last_moment lines) added told);
      };
      drained = beside (AreSeconds (last_moment lines) added) (NobodyWaits account) (added ≡ []) drain told (λ on. none_waits broker lines count drain account passes on is.lawful.ends);
      winners = is.winners;
    }
