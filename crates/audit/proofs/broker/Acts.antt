-- What holds of a board is kept by each step: a request is answered at once or left waiting, and a session ends.
use Rattle.std.proofs.Common.{◌≡◌, ℕ, ◌≤◌, ◌<◌, Bool, true, false, cond, List, [], ◌∷◌, ◌++◌, length, map, set, Option, Some, None, refl, sym, ap, subst, ◌∙◌, arith, append-nil}
use Rattle.std.proofs.lemmas.List.{length-map, length-set, map-append}
use Rattle.std.specs.Prelude.{slice_get}
use Rattle.std.specs.List.{AllByRecursion}
use Rattle.std.specs.List.Sorted.{IsStrictlyIncreasing}
use Rattle.partlog.specs.declared.clock_event.ClockEvent.{ClockEvent}
use Rattle.partlog.specs.declared.clock_event.ClockEvent.TheVariants as clocks
use Rattle.partlog.specs.History.{History}
use Rattle.partlog.specs.Moment.{moment_of}
use Rattle.partlog.specs.State.{state_of}
use Rattle.audit.specs.declared.account.Call.{Call}
use Rattle.audit.specs.declared.account.CallHow.TheVariants.{Parked}
use Rattle.audit.specs.declared.account.Point.{Point}
use Rattle.audit.specs.declared.account.SessionEnd.{SessionEnd}
use Rattle.audit.specs.declared.account.Transcript.{Transcript}
use Rattle.audit.specs.Histories.{points_of, ticks_of}
use Rattle.audit.specs.LawfulCall.{step_points}
use Rattle.kbytes.proofs.Laws.{get_there, all_append}
use Rattle.kanswer.specs.Decisions.{Decision, Refuse, AskLog, Decides}
use Rattle.kanswer.specs.Waiting.{becomes_delayed, operation_of, results_of}
use Rattle.kwire.specs.Configuration.{Configuration}
use Rattle.kwire.specs.IsRequest.{IsRequest}
use Rattle.kwire.specs.declared.request.Request.{Request}
use Rattle.audit.specs.broker.Board.{Board, Waiting, history_at, empty_history, seat_at, transcript_at, next_call}
use Rattle.kanswer.specs.WithEntry.{entered}
use Rattle.audit.specs.broker.Entering.{Noted, accept_all, steps_of, shown_of}
use Rattle.audit.specs.broker.GoesOn.{AllWhole, HaveGrown}
use Rattle.audit.specs.broker.Kept.{IsKept, owners_at}
use Rattle.audit.specs.broker.Timely.{IsTimely}
use Rattle.audit.specs.broker.Turns.{how_at_once, seat_with, answered_at_once, left_waiting, handled, ended}
use Rattle.audit.proofs.broker.Growth.{entered_whole, looked_moment}
use Rattle.audit.proofs.broker.Entries.{accepted_longer, IsFair, set_whole, accepted_size, accepted_followers}
use Rattle.audit.proofs.broker.Fair.{parts_size, decides_fair}
use Rattle.audit.proofs.broker.Going.{grown_self, grown_parts, grown_clock, clock_point}
use Rattle.audit.proofs.broker.Ledger.{put, put_again, kept_begun, kept_alike}
use Rattle.audit.proofs.broker.Accepting.{kept_accepted_at, kept_look_at}
use Rattle.audit.proofs.broker.Calls.{done_at_once, waits_on}
use Rattle.audit.proofs.broker.Late.{AllLate, late_more}
use Rattle.audit.proofs.broker.NewEntries.{accepted_takes, accepted_timely}
use Rattle.audit.proofs.broker.Timely.{timely_changed}
use Rattle.audit.proofs.broker.Boards.{IsDone, AreDone, Stand, AreHistories, IsSound, ledger_of, waiting_of, all_done_on, seat_changed, waits_more, waits_else, alone_more}

-- ---- histories

pub ticks_looked : (clock : List ClockEvent) (by seq : ℕ) → ticks_of (clock ++ clocks.Look by seq ∷ []) ≡ ticks_of clock
ticks_looked [] by seq = refl
ticks_looked (clocks.Tick t ∷ clock) by seq = ap (λ (ts : List ℕ). t ∷ ts) (ticks_looked clock by seq)
ticks_looked (clocks.Look b q ∷ clock) by seq = ticks_looked clock by seq

pub accepted_whole : (by seq t n : ℕ) (decisions : List Decision) (parts : List History) → length parts ≡ n → AllWhole parts → AllByRecursion (IsFair n) decisions → AllWhole (accept_all by seq t decisions parts).1
accepted_whole by seq t n [] parts size whole fair = whole
accepted_whole by seq t n (Refuse code ∷ decisions) parts size whole fair = accepted_whole by seq t n decisions parts size whole fair.1
accepted_whole by seq t n (AskLog part outcome ∷ decisions) parts size whole fair =
    let found = history_at parts part in
    let entry = (outcome (state_of found)).entry in
    let left = entered found by seq t entry in
    let within : part < length parts = omega (arith, size, fair.0.0) in
    let there : slice_get parts part ≡ Some found = get_there parts part (empty_history 0) within in
    accepted_whole by seq t n decisions (set parts part left) (length-set parts part left ∙ size)
    (set_whole parts part left whole within (entered_whole found by seq t entry (whole part found there) (fair.0.1 (state_of found)).0)) fair.1

-- those that accepting leaves
pub histories_on : (config : Configuration) (parts : List History) (clock behind : List ClockEvent) (by seq t : ℕ) (decisions : List Decision) → AreHistories config parts clock → AllByRecursion (IsFair (length parts)) decisions
    → ticks_of behind ≡ ticks_of clock → AreHistories config (accept_all by seq t decisions parts).1 behind
histories_on config parts clock behind by seq t decisions h fair ticks = record {
  whole = accepted_whole by seq t (length parts) decisions parts refl h.whole fair;
  few = omega (arith, h.few, accepted_size by seq t (length parts) decisions parts);
  followers = accepted_followers by seq t (length parts) decisions parts refl fair ∙ h.followers;
  ticks = subst (λ (ts : List ℕ). IsStrictlyIncreasing (0 ∷ ts)) (sym ticks) h.ticks;
}

-- ---- a request comes

module _ (board : Board) (s : ℕ) (body : List ℕ) (request : Request) (decisions : List Decision) (h : IsSound board) (lt : s < 64) (nobody : waiting_of board.waiting s ≡ None) (asked : IsRequest body request) (decided : Decides board.config request.ask decisions) where
  abbrev seq : ℕ
  seq = next_call board s

  -- the clock's moment
  abbrev now : ℕ
  now = moment_of board.clock

  abbrev came : List Noted × List History
  came = accept_all s seq now decisions board.parts

  abbrev t : Transcript
  t = transcript_at board s

  abbrev before : List (List Point)
  before = ledger_of (transcript_at board) s

  fair : AllByRecursion (IsFair (length board.parts)) decisions
  fair = subst (λ (n : ℕ). AllByRecursion (IsFair n) decisions) (sym (parts_size board.config.topics board.parts h.sound.histories.followers)) (decides_fair board.config request.ask decisions decided)

  few : length board.parts ≤ 64
  few = omega (arith, h.sound.histories.few)

  is_seq : seq ≡ length before
  is_seq = omega (arith, (h.sound.sessions s).first, length-map t.calls points_of)

  larger : length board.parts ≤ length came.1
  larger = omega (arith, accepted_size s seq now (length board.parts) decisions board.parts)

  old_done : AreDone board.config board.parts board.clock t.calls
  old_done = subst (λ (o : Option Waiting). Stand board.config board.parts board.clock s o t) nobody (h.sound.sessions s).stand

  kept_came : IsKept (owners_at came.1 board.clock) (put (ledger_of (transcript_at board)) s (before ++ step_points (steps_of came.0) ∷ []))
  kept_came =
      kept_accepted_at board.clock (ledger_of (transcript_at board)) s seq now (length board.parts) before decisions board.parts [] is_seq refl few fair
      (kept_begun (owners_at board.parts board.clock) (ledger_of (transcript_at board)) s h.sound.kept)

  -- the rows of its pass, where the new call has these points
  rows : (call : Call) (points : List Point) → points_of call ≡ points → before ++ points ∷ [] ≡ map points_of (t.calls ++ call ∷ [])
  rows call points is = sym (map-append points_of t.calls (call ∷ []) ∙ ap (λ (ps : List Point). before ++ ps ∷ []) is)

  abbrev Rows : List History → List ClockEvent → List (List Point) → Type 0
  Rows later behind rs = IsKept (owners_at later behind) (put (ledger_of (transcript_at board)) s rs)

  abbrev Timely : List History → List ClockEvent → List (List Point) → Type 0
  Timely later behind rs = (r : ℕ) → IsTimely r later behind (put (ledger_of (transcript_at board)) s rs r)

  -- nobody was taken out
  late_came : AllLate came.1
  late_came =
      late_more board.parts came.1 (accepted_longer s seq now (length board.parts) decisions board.parts refl fair) (omega (arith, accepted_size s seq now (length board.parts) decisions board.parts))
      (accepted_takes s seq now (length board.parts) decisions board.parts refl fair) h.sound.late

  -- the entries are at the clock's moment
  timely_came : (behind : List ClockEvent) (points : List Point) → HaveGrown board.parts board.clock came.1 behind → moment_of behind ≡ moment_of board.clock
      → IsKept (owners_at came.1 behind) (put (ledger_of (transcript_at board)) s (before ++ points ∷ [])) → (r : ℕ)
      → IsTimely r came.1 behind (put (ledger_of (transcript_at board)) s (before ++ points ∷ []) r)
  timely_came behind points grown moment kept r =
      timely_changed board.parts came.1 board.clock behind (ledger_of (transcript_at board)) s before [] (points ∷ []) (sym (append-nil before)) (omega arith)
      (omega (arith, few, accepted_size s seq now (length board.parts) decisions board.parts)) grown h.sound.kept kept
      (λ q. accepted_timely q s seq (length board.parts) board.clock behind (ledger_of (transcript_at board) q) decisions board.parts refl fair moment) h.sound.timely r

  pub at_once_sound : becomes_delayed request.ask (shown_of came.0) ≡ false → IsSound (answered_at_once board s body request came).board
  at_once_sound at_once =
      let done = done_at_once board.config board.parts board.clock s seq now body request decisions h.sound.histories.whole few asked decided fair at_once in
      let call : Call = record { frame = body; accept = step_points (steps_of came.0); finish = []; how = how_at_once request.ask } in
      let grown : HaveGrown board.parts board.clock came.1 board.clock = grown_parts board.parts came.1 board.clock (accepted_longer s seq now (length board.parts) decisions board.parts refl fair) in
      seat_changed board came.1 board.clock s (seat_with board s body call) (record t { calls = t.calls ++ call ∷ [] }) board.waiting h lt refl grown larger
      (histories_on board.config board.parts board.clock board.clock s seq now decisions h.sound.histories fair refl)
      (subst (Rows came.1 board.clock) (rows call (step_points (steps_of came.0)) (append-nil (step_points (steps_of came.0)))) kept_came)
      late_came
      (subst (Timely came.1 board.clock) (rows call (step_points (steps_of came.0)) (append-nil (step_points (steps_of came.0)))) (timely_came board.clock (step_points (steps_of came.0)) grown refl kept_came))
      (λ r other. refl)
      (record {
        number = (h.sound.sessions s).number;
        first = (h.sound.sessions s).first;
        stand = subst (λ (o : Option Waiting). Stand board.config came.1 board.clock s o (record t { calls = t.calls ++ call ∷ [] })) (sym nobody)
            (all_append (IsDone board.config came.1 board.clock) t.calls (call ∷ []) (all_done_on board.config board.parts came.1 board.clock board.clock grown larger t.calls old_done) (done, tt));
      })
      h.sound.alone

  abbrev behind : List ClockEvent
  behind = board.clock ++ clocks.Look s seq ∷ []

  abbrev w : Waiting
  w = record {
    session = s;
    request = request;
    steps = steps_of came.0;
    operation = operation_of request.ask (results_of (shown_of came.0)) (moment_of behind);
  }

  pub waiting_sound : t.end ≡ None → becomes_delayed request.ask (shown_of came.0) ≡ true → IsSound (left_waiting board s body request came).board
  waiting_sound going delayed =
      let waits = waits_on board.config board.parts board.clock s seq now body request decisions h.sound.histories.whole few asked decided fair delayed in
      let points = step_points (steps_of came.0) ++ clock_point board.clock ∷ [] in
      let call : Call = record { frame = body; accept = points; finish = []; how = Parked } in
      let later : Transcript = record t { calls = t.calls ++ call ∷ [] } in
      let grown : HaveGrown board.parts board.clock came.1 behind = grown_clock board.parts came.1 board.clock (clocks.Look s seq) (accepted_longer s seq now (length board.parts) decisions board.parts refl fair) in
      let looked_too = kept_look_at came.1 board.clock (ledger_of (transcript_at board)) s seq before (step_points (steps_of came.0)) is_seq kept_came in
      seat_changed board came.1 behind s (seat_with board s body call) later (board.waiting ++ w ∷ []) h lt refl grown larger
      (histories_on board.config board.parts board.clock behind s seq now decisions h.sound.histories fair (ticks_looked board.clock s seq))
      (subst (Rows came.1 behind) (rows call points (append-nil points)) looked_too)
      late_came
      (subst (Timely came.1 behind) (rows call points (append-nil points)) (timely_came behind points grown (looked_moment board.clock s seq) looked_too))
      (λ r other. waits_else board.waiting w r other)
      (record {
        number = (h.sound.sessions s).number;
        first = (h.sound.sessions s).first;
        stand = subst (λ (o : Option Waiting). Stand board.config came.1 behind s o later) (sym (waits_more board.waiting w nobody)) (record {
          front = t.calls;
          call = call;
          calls = refl;
          done = all_done_on board.config board.parts came.1 board.clock behind grown larger t.calls old_done;
          waits = waits;
          own = refl;
          going = going;
        });
      })
      (alone_more board.waiting w nobody h.sound.alone)

  by_waiting : (b : Bool) → becomes_delayed request.ask (shown_of came.0) ≡ b → t.end ≡ None → IsSound (cond b (left_waiting board s body request came) (answered_at_once board s body request came)).board
  by_waiting true delayed going = waiting_sound going delayed
  by_waiting false delayed going = at_once_sound delayed

  pub handled_sound : t.end ≡ None → IsSound (handled board s body request decisions).board
  handled_sound going = by_waiting (becomes_delayed request.ask (shown_of came.0)) refl going

-- ---- a session ends

pub ended_sound : (board : Board) (s : ℕ) (end : SessionEnd) → IsSound board → s < 64 → waiting_of board.waiting s ≡ None → IsSound (ended board s end).board
ended_sound board s end h lt nobody =
    let t = transcript_at board s in
    let later : Transcript = record t { end = Some end } in
    seat_changed board board.parts board.clock s (record (seat_at board s) { transcript = Some later }) later board.waiting h lt refl (grown_self board.parts board.clock) (omega arith) h.sound.histories
    (kept_alike (owners_at board.parts board.clock) (ledger_of (transcript_at board)) (put (ledger_of (transcript_at board)) s (map points_of t.calls))
    (put_again (ledger_of (transcript_at board)) s (map points_of t.calls) refl) h.sound.kept)
    h.sound.late
    (λ r. subst (IsTimely r board.parts board.clock) (sym (put_again (ledger_of (transcript_at board)) s (map points_of t.calls) refl r)) (h.sound.timely r))
    (λ r other. refl)
    (record {
      number = (h.sound.sessions s).number;
      first = (h.sound.sessions s).first;
      stand = subst (λ (o : Option Waiting). Stand board.config board.parts board.clock s o later) (sym nobody)
          (subst (λ (o : Option Waiting). Stand board.config board.parts board.clock s o t) nobody (h.sound.sessions s).stand);
    })
    h.sound.alone
