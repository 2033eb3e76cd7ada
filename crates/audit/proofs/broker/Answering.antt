-- A waiting request of a board is answered, satisfied or expired: what holds of the board holds on.
use Rattle.std.proofs.Common.{◌≡◌, ℕ, ◌+◌, ◌≤◌, ◌<◌, Bool, true, false, ◌||◌, cond, List, [], ◌∷◌, ◌++◌, length, map, Option, Some, refl, sym, ap, subst, ◌∙◌, arith, append-nil, append_assoc, length-append}
use Rattle.std.proofs.lemmas.List.{length-map, map-append}
use Rattle.std.specs.Prelude.{if◌then◌else◌}
use Rattle.std.specs.List.{AllByRecursion}
use Rattle.partlog.specs.declared.clock_event.ClockEvent.{ClockEvent}
use Rattle.partlog.specs.declared.clock_event.ClockEvent.TheVariants as clocks
use Rattle.partlog.specs.History.{History}
use Rattle.audit.specs.declared.account.Call.{Call}
use Rattle.audit.specs.declared.account.CallHow.{CallHow}
use Rattle.audit.specs.declared.account.CallHow.TheVariants.{Satisfied, Expired}
use Rattle.audit.specs.declared.account.Point.{Point}
use Rattle.audit.specs.declared.account.Transcript.{Transcript}
use Rattle.audit.specs.Histories.{points_of}
use Rattle.audit.specs.LawfulCall.{operation_parts}
use Rattle.kbytes.proofs.Laws.{all_append}
use Rattle.audit.specs.broker.Board.{Board, Waiting, seat_at, transcript_at}
use Rattle.audit.specs.broker.Completing.{look_all, finish_last, last_call, is_satisfied_now, is_overdue_now, is_answerable_now, completed_as, completed}
use Rattle.audit.specs.broker.GoesOn.{HaveGrown}
use Rattle.audit.specs.broker.Kept.{IsKept, owners_at}
use Rattle.audit.specs.broker.Timely.{IsTimely}
use Rattle.audit.proofs.broker.Entries.{IsFair, accepted_longer, accepted_size}
use Rattle.audit.proofs.broker.Going.{grown_parts, grown_clock, clock_point}
use Rattle.audit.proofs.broker.Ledger.{put, put_again, kept_alike}
use Rattle.audit.proofs.broker.Accepting.{kept_accepted_at, kept_look_at, look_decisions, look_points, looked, looks_points, looks_parts, looks_fair}
use Rattle.audit.proofs.broker.Acts.{ticks_looked, histories_on}
use Rattle.audit.proofs.broker.Calls.{left_on, done_satisfied, done_expired}
use Rattle.audit.proofs.broker.Late.{AllLate, late_more}
use Rattle.audit.proofs.broker.NewEntries.{accepted_takes, looks_timely}
use Rattle.audit.proofs.broker.Timely.{timely_changed}
use Rattle.audit.proofs.broker.Boards.{IsDone, AreDone, WaitsLast, Stand, AreHistories, IsSound, ledger_of, waiting_of, all_done_on, seat_changed, waits_no_more, waits_still, without, alone_still, finished, waits_last, waits_there}

module _ (board : Board) (w : Waiting) (h : IsSound board) (found : waiting_of board.waiting w.session ≡ Some w) where
  abbrev s : ℕ
  s = w.session

  abbrev t : Transcript
  t = transcript_at board w.session

  abbrev seq : ℕ
  seq = last_call board w.session

  last : WaitsLast board.config board.parts board.clock w.session w (transcript_at board w.session)
  last = waits_last board w.session w h found

  lt : w.session < 64
  lt = waits_there board w.session w h found

  few : length board.parts ≤ 64
  few = omega (arith, h.sound.histories.few)

  is_seq : seq ≡ length (map points_of last.front)
  is_seq =
      let size : length t.calls ≡ length last.front + 1 = ap length last.calls ∙ length-append last.front (last.call ∷ []) in
      omega (arith, (h.sound.sessions w.session).first, size, length-map last.front points_of)

  -- the last call is completed
  completed_as_sound : (behind : List ClockEvent) (finish : List Point) (how : CallHow) (later : List History) → HaveGrown board.parts board.clock later behind → length board.parts ≤ length later → AreHistories board.config later behind
      → IsKept (owners_at later behind) (put (ledger_of (transcript_at board)) w.session (map points_of last.front ++ (last.call.accept ++ finish) ∷ [])) → AllLate later
      → ((r : ℕ) → IsTimely r later behind (put (ledger_of (transcript_at board)) w.session (map points_of last.front ++ (last.call.accept ++ finish) ∷ []) r))
      → IsDone board.config later behind (record last.call { finish = finish; how = how }) → IsSound (completed_as board w behind finish how later)
  completed_as_sound behind finish how later grown longer histories kept late timely done =
      let call : Call = record last.call { finish = finish; how = how } in
      let calls : finish_last finish how t.calls ≡ last.front ++ call ∷ [] = ap (finish_last finish how) last.calls ∙ finished finish how last.front last.call in
      let rows : map points_of last.front ++ (last.call.accept ++ finish) ∷ [] ≡ map points_of (finish_last finish how t.calls) =
      sym (map-append points_of last.front (call ∷ [])) ∙ sym (ap (map points_of) calls) in
      let none = waits_no_more board.waiting w.session in
      seat_changed board later behind w.session (record (seat_at board w.session) { transcript = Some (record t { calls = finish_last finish how t.calls }) }) (record t { calls = finish_last finish how t.calls })
      (without board.waiting w.session) h lt refl grown longer histories
      (subst (λ (rs : List (List Point)). IsKept (owners_at later behind) (put (ledger_of (transcript_at board)) w.session rs)) rows kept)
      late
      (subst (λ (rs : List (List Point)). (r : ℕ) → IsTimely r later behind (put (ledger_of (transcript_at board)) w.session rs r)) rows timely)
      (λ r other. waits_still board.waiting w.session r other)
      (record {
        number = (h.sound.sessions w.session).number;
        first = (h.sound.sessions w.session).first;
        stand = subst (λ (o : Option Waiting). Stand board.config later behind w.session o (record t { calls = finish_last finish how t.calls })) (sym none)
            (subst (AreDone board.config later behind) (sym calls)
            (all_append (IsDone board.config later behind) last.front (call ∷ []) (all_done_on board.config board.parts later board.clock behind grown longer last.front last.done) (done, tt)));
      })
      (alone_still board.waiting w.session h.sound.alone)

  abbrev ps : List ℕ
  ps = operation_parts w.steps

  abbrev looks : List Point
  looks = look_points w.session seq ps board.parts

  abbrev left : List History
  left = looked w.session seq ps board.parts

  fair : AllByRecursion (IsFair (length board.parts)) (look_decisions ps)
  fair = looks_fair (length board.parts) ps last.waits.within

  longer : length board.parts ≤ length left
  longer = omega (arith, accepted_size w.session seq 0 (length board.parts) (look_decisions ps) board.parts)

  late_left : AllLate left
  late_left =
      late_more board.parts left (accepted_longer w.session seq 0 (length board.parts) (look_decisions ps) board.parts refl fair) (omega (arith, accepted_size w.session seq 0 (length board.parts) (look_decisions ps) board.parts))
      (accepted_takes w.session seq 0 (length board.parts) (look_decisions ps) board.parts refl fair) h.sound.late

  -- the looks are those of the last call
  timely_left : (behind : List ClockEvent) (points : List Point) → HaveGrown board.parts board.clock left behind
      → IsKept (owners_at left behind) (put (ledger_of (transcript_at board)) w.session (map points_of last.front ++ points ∷ [])) → (r : ℕ)
      → IsTimely r left behind (put (ledger_of (transcript_at board)) w.session (map points_of last.front ++ points ∷ []) r)
  timely_left behind points grown kept r =
      let rows : ledger_of (transcript_at board) w.session ≡ map points_of last.front ++ points_of last.call ∷ [] = ap (map points_of) last.calls ∙ map-append points_of last.front (last.call ∷ []) in
      timely_changed board.parts left board.clock behind (ledger_of (transcript_at board)) w.session (map points_of last.front) (points_of last.call ∷ []) (points ∷ []) rows (omega arith)
      (omega (arith, few, accepted_size w.session seq 0 (length board.parts) (look_decisions ps) board.parts)) grown h.sound.kept kept
      (λ q. looks_timely q w.session seq 0 (length board.parts) behind (ledger_of (transcript_at board) q) ps board.parts refl fair) h.sound.timely r

  kept_last : IsKept (owners_at board.parts board.clock) (put (ledger_of (transcript_at board)) w.session (map points_of last.front ++ points_of last.call ∷ []))
  kept_last =
      let rows = map points_of last.front ++ points_of last.call ∷ [] in
      let is : rows ≡ map points_of t.calls = sym (map-append points_of last.front (last.call ∷ [])) ∙ sym (ap (map points_of) last.calls) in
      kept_alike (owners_at board.parts board.clock) (ledger_of (transcript_at board)) (put (ledger_of (transcript_at board)) w.session rows)
      (put_again (ledger_of (transcript_at board)) w.session rows is) h.sound.kept

  -- it has no points but those of its acceptance
  no_finish : points_of last.call ≡ last.call.accept
  no_finish = ap (λ (ps : List Point). last.call.accept ++ ps) last.waits.unfinished ∙ append-nil last.call.accept

  satisfied_sound : is_satisfied_now board w ≡ true → IsSound (completed_as board w board.clock looks (Satisfied 0) left)
  satisfied_sound enough =
      let kept = kept_accepted_at board.clock (ledger_of (transcript_at board)) w.session seq 0 (length board.parts) (map points_of last.front) (look_decisions ps) board.parts (points_of last.call) is_seq refl few fair kept_last in
      let grown : HaveGrown board.parts board.clock left board.clock = grown_parts board.parts left board.clock (left_on board.config board.parts board.clock w last.call w.session seq h.sound.histories.whole few last.waits) in
      let kept1 : IsKept (owners_at left board.clock) (put (ledger_of (transcript_at board)) w.session (map points_of last.front ++ (last.call.accept ++ looks) ∷ [])) =
      subst (λ (points : List Point). IsKept (owners_at left board.clock) (put (ledger_of (transcript_at board)) w.session (map points_of last.front ++ (points ++ looks) ∷ []))) no_finish kept in
      completed_as_sound board.clock looks (Satisfied 0) left grown longer
      (histories_on board.config board.parts board.clock board.clock w.session seq 0 (look_decisions ps) h.sound.histories fair refl)
      kept1 late_left (timely_left board.clock (last.call.accept ++ looks) grown kept1)
      (done_satisfied board.config board.parts board.clock w last.call w.session seq h.sound.histories.whole few last.waits enough)

  abbrev behind : List ClockEvent
  behind = board.clock ++ clocks.Look w.session seq ∷ []

  expired_sound : is_overdue_now board w ≡ true → IsSound (completed_as board w behind (clock_point board.clock ∷ looks) (Expired 0) left)
  expired_sound overdue =
      let at_clock = kept_look_at board.parts board.clock (ledger_of (transcript_at board)) w.session seq (map points_of last.front) (points_of last.call) is_seq kept_last in
      let kept = kept_accepted_at behind (ledger_of (transcript_at board)) w.session seq 0 (length board.parts) (map points_of last.front) (look_decisions ps) board.parts (points_of last.call ++ clock_point board.clock ∷ []) is_seq refl few fair at_clock in
      let points : (points_of last.call ++ clock_point board.clock ∷ []) ++ looks ≡ last.call.accept ++ clock_point board.clock ∷ looks =
      append_assoc (points_of last.call) (clock_point board.clock ∷ []) looks ∙ ap (λ (points : List Point). points ++ clock_point board.clock ∷ looks) no_finish in
      let grown : HaveGrown board.parts board.clock left behind = grown_clock board.parts left board.clock (clocks.Look w.session seq) (left_on board.config board.parts board.clock w last.call w.session seq h.sound.histories.whole few last.waits) in
      let kept1 : IsKept (owners_at left behind) (put (ledger_of (transcript_at board)) w.session (map points_of last.front ++ (last.call.accept ++ clock_point board.clock ∷ looks) ∷ [])) =
      subst (λ (points : List Point). IsKept (owners_at left behind) (put (ledger_of (transcript_at board)) w.session (map points_of last.front ++ points ∷ []))) points kept in
      completed_as_sound behind (clock_point board.clock ∷ looks) (Expired 0) left grown longer
      (histories_on board.config board.parts board.clock behind w.session seq 0 (look_decisions ps) h.sound.histories fair (ticks_looked board.clock w.session seq))
      kept1 late_left (timely_left behind (last.call.accept ++ clock_point board.clock ∷ looks) grown kept1)
      (done_expired board.config board.parts board.clock w last.call w.session seq h.sound.histories.whole few last.waits overdue)

  -- with these looks, and these histories behind them
  abbrev as_completed : List Point → List History → Board
  as_completed points later =
      if is_satisfied_now board w then completed_as board w board.clock points (Satisfied 0) later
      else completed_as board w behind (clock_point board.clock ∷ points) (Expired 0) later

  by_cause : (b : Bool) → is_satisfied_now board w ≡ b → (b || is_overdue_now board w) ≡ true
      → IsSound (cond b (completed_as board w board.clock looks (Satisfied 0) left) (completed_as board w behind (clock_point board.clock ∷ looks) (Expired 0) left))
  by_cause true enough some = satisfied_sound enough
  by_cause false enough some = expired_sound some

  pub completed_sound : is_answerable_now board w ≡ true → IsSound (completed board w).board
  completed_sound some =
      let points : (look_all w.session seq ps board.parts).0 ≡ looks = looks_points w.session seq ps board.parts in
      let parts : (look_all w.session seq ps board.parts).1 ≡ left = looks_parts w.session seq ps board.parts in
      subst (λ (points : List Point). IsSound (as_completed points (look_all w.session seq ps board.parts).1)) (sym points)
      (subst (λ (later : List History). IsSound (as_completed looks later)) (sym parts) (by_cause (is_satisfied_now board w) refl some))
