-- A request that is completed: whether it is, the looks that it leaves, and that it waits no more.
use Rattle.std.proofs.Common.{◌≡◌, ℕ, ◌-◌, ◌<◌, ◌≤◌, Bool, true, false, cond, ◌||◌, List, [], ◌∷◌, ◌++◌, length, map, set, Option, Some, None, refl, sym, ap, subst, ◌∙◌, inl, inr}
use Rattle.std.proofs.lemmas.List.{length-set}
use Rattle.std.proofs.lemmas.Bool.{le-leb}
use Rattle.std.proofs.lemmas.Bool.Decides.{leb_tells}
use Rattle.std.specs.Prelude.{nat_le}
use Rattle.std.specs.List.{cons_option}
use Rattle.partlog.specs.History.{History}
use Rattle.partlog.specs.Looked.{looked}
use Rattle.partlog.specs.Moment.{moment_of}
use Rattle.kwire.specs.Configuration.{partitions_of}
use Rattle.kanswer.specs.Answer.{answer}
use Rattle.kanswer.specs.Results.{part_asked, parts_asked}
use Rattle.kanswer.specs.Waiting.{values_of}
use Rattle.kanswer.specs.declared.accepted.Accepted.{Accepted}
use Rattle.kanswer.specs.declared.accepted.Accepted.TheVariants.{Refused, Appended, Seen}
use Rattle.opcond.specs.Operation.{Operation}
use Rattle.opcond.specs.Tally.{IsOverdue, IsSatisfied, tally}
use Rattle.audit.specs.LawfulCall.{Step, operation_parts, part_in}
use Rattle.audit.specs.declared.account.CallHow.{CallHow}
use Rattle.audit.specs.declared.account.CallHow.TheVariants.{Expired, Satisfied}
use Rattle.audit.specs.declared.account.Point.{Point}
use Rattle.trace_file.specs.PrintedLine.{reply_line}
use Rattle.audit.specs.broker.Board.{Board, Seat, Waiting, history_at, next_call, seat_at, transcript_at}
use Rattle.audit.specs.broker.Completing.{answered_in, completed, finish_last, is_answerable_now, is_overdue_now, is_satisfied_now, look_all, shown_now, unless_none}
use Rattle.lone_broker.specs.Desks.{transcript_of}
use Rattle.lone_broker.specs.Kept.{AreKept, IsKeptOf, Kept, MatchesWaiting, StandsFor, last_frame, waiting_in, with_waiting}
use Rattle.audit.specs.broker.Board.{gauge_now}
use Rattle.lone_broker.specs.Looks.{clock_after, clock_points, due_as, due_in, finished}
use Rattle.lone_broker.specs.declared.parked.Parked.{Parked}
use Rattle.lone_broker.proofs.Followers.{set_followers}
use Rattle.lone_broker.proofs.Needs.{now_values}
use Rattle.lone_broker.proofs.Standing.{are_moved, moved, stands_of}
use Rattle.lone_broker.proofs.Turning.{turned}
use Rattle.lone_broker.proofs.Waits.{found_is, others_of, waits_no_more, waits_still}

-- ---- whether it is due

neither : (a b : Bool) → cond a (Some (Satisfied 0)) (cond b (Some (Expired 0)) None) ≡ None → (a || b) ≡ false
neither true b e = absurd cc
neither false true e = absurd cc
neither false false e = refl

not_due_as : (board : Board) (w : Waiting) → due_as board w ≡ None → unless_none board (Some w) ≡ turned board []
not_due_as board w e =
    let no : is_answerable_now board w ≡ false = neither (is_satisfied_now board w) (is_overdue_now board w) e in
    ap (λ (b : Bool). cond b (completed board w) (turned board [])) no

not_due : (board : Board) (o : Option Waiting) → due_in board o ≡ None → unless_none board o ≡ turned board []
not_due board None e = refl
not_due board (Some w) e = not_due_as board w e

pub nothing_due : (board : Board) (session : ℕ) → due_in board (waiting_in board.waiting session) ≡ None → answered_in board session ≡ turned board []
nothing_due board session e = not_due board (waiting_in board.waiting session) e

due_by : (board : Board) (w : Waiting) (how : CallHow) (a b : Bool) → is_satisfied_now board w ≡ a → is_overdue_now board w ≡ b → cond a (Some (Satisfied 0)) (cond b (Some (Expired 0)) None) ≡ Some how
    → unless_none board (Some w) ≡ turned (finished board w how) (reply_line w.session (answer board.config w.request (shown_now board w.steps)))
due_by board w how true b sat over e =
    let is : Satisfied 0 ≡ how = cc in
    let text : List ℕ = reply_line w.session (answer board.config w.request (shown_now board w.steps)) in
    ap (λ (x : Bool). cond (x || is_overdue_now board w) (completed board w) (turned board [])) sat
    ∙ ap (λ (x : Bool). turned (cond x (finished board w (Satisfied 0)) (finished board w (Expired 0))) text) sat
    ∙ ap (λ (h : CallHow). turned (finished board w h) text) is
due_by board w how false true sat over e =
    let is : Expired 0 ≡ how = cc in
    let text : List ℕ = reply_line w.session (answer board.config w.request (shown_now board w.steps)) in
    ap (λ (x : Bool). cond (x || is_overdue_now board w) (completed board w) (turned board [])) sat
    ∙ ap (λ (x : Bool). cond x (completed board w) (turned board [])) over
    ∙ ap (λ (x : Bool). turned (cond x (finished board w (Satisfied 0)) (finished board w (Expired 0))) text) sat
    ∙ ap (λ (h : CallHow). turned (finished board w h) text) is
due_by board w how false false sat over e = absurd cc

-- the request that waits there
pub record IsDue (board : Board) (session : ℕ) (how : CallHow) : Type 0 where
  pub waiting : Waiting
  pub found : waiting_in board.waiting session ≡ Some waiting
  pub answered : answered_in board session ≡ turned (finished board waiting how) (reply_line session (answer board.config waiting.request (shown_now board waiting.steps)))

due_found : (board : Board) (session : ℕ) (how : CallHow) (o : Option Waiting) → waiting_in board.waiting session ≡ o → due_in board o ≡ Some how → IsDue board session how
due_found board session how None is e = absurd cc
due_found board session how (Some w) is e =
    let same : w.session ≡ session = found_is board.waiting session w is in
    record {
      waiting = w;
      found = is;
      answered = ap (unless_none board) is ∙ due_by board w how (is_satisfied_now board w) (is_overdue_now board w) refl refl e
          ∙ ap (λ (s : ℕ). turned (finished board w how) (reply_line s (answer board.config w.request (shown_now board w.steps)))) same;
    }

pub something_due : (board : Board) (session : ℕ) (how : CallHow) → due_in board (waiting_in board.waiting session) ≡ Some how → IsDue board session how
something_due board session how e = due_found board session how (waiting_in board.waiting session) refl e

-- ---- how the code tells

told_by : (least sum : ℕ) (b : Bool) → (b ≡ true → least ≤ sum) → (least ≤ sum → b ≡ true) → nat_le least sum ≡ b
told_by least sum true holds fails = le-leb least sum (holds refl)
told_by least sum false holds fails = elim (leb_tells least sum) [
  | inl le ↦ let other = fails le.1 in absurd cc
  | inr lt ↦ lt.0
]

pub satisfied_as : (board : Board) (parts : ℕ) (frame : List ℕ) (parked : Parked) (w : Waiting) → IsKeptOf parts frame parked w
    → is_satisfied_now board w ≡ nat_le parked.op.least (tally parked.op.needs (map (gauge_now board.parts) parked.op.needs))
satisfied_as board parts frame parked w kept =
    ap (λ (op : Operation). nat_le op.least (tally op.needs (values_of w.request.ask (shown_now board w.steps)))) kept.operation
    ∙ ap (λ (vs : List ℕ). nat_le parked.op.least (tally parked.op.needs vs)) (now_values board parts frame parked w kept)

pub overdue_as : (board : Board) (parts : ℕ) (frame : List ℕ) (parked : Parked) (w : Waiting) → IsKeptOf parts frame parked w → is_overdue_now board w ≡ nat_le parked.op.deadline (moment_of board.clock)
overdue_as board parts frame parked w kept = ap (λ (op : Operation). nat_le op.deadline (moment_of board.clock)) kept.operation

pub satisfied_is : (board : Board) (parts : ℕ) (frame : List ℕ) (parked : Parked) (w : Waiting) (b : Bool) → IsKeptOf parts frame parked w
    → (b ≡ true → IsSatisfied parked.op (map (gauge_now board.parts) parked.op.needs)) → (IsSatisfied parked.op (map (gauge_now board.parts) parked.op.needs) → b ≡ true) → is_satisfied_now board w ≡ b
satisfied_is board parts frame parked w b kept holds fails =
    satisfied_as board parts frame parked w kept ∙ told_by parked.op.least (tally parked.op.needs (map (gauge_now board.parts) parked.op.needs)) b holds fails

pub overdue_is : (board : Board) (parts : ℕ) (frame : List ℕ) (parked : Parked) (w : Waiting) (now : ℕ) (b : Bool) → IsKeptOf parts frame parked w → now ≡ moment_of board.clock
    → (b ≡ true → IsOverdue parked.op now) → (IsOverdue parked.op now → b ≡ true) → is_overdue_now board w ≡ b
overdue_is board parts frame parked w now b kept at holds fails =
    overdue_as board parts frame parked w kept ∙ ap (λ (m : ℕ). nat_le parked.op.deadline m) (sym at) ∙ told_by parked.op.deadline now b holds fails

-- ---- looks

pub look_append : (by seq : ℕ) (xs ys : List ℕ) (parts : List History)
    → ((look_all by seq (xs ++ ys) parts).0 ≡ (look_all by seq xs parts).0 ++ (look_all by seq ys (look_all by seq xs parts).1).0)
    × ((look_all by seq (xs ++ ys) parts).1 ≡ (look_all by seq ys (look_all by seq xs parts).1).1)
look_append by seq [] ys parts = (refl, refl)
look_append by seq (x ∷ xs) ys parts =
    let rest = look_append by seq xs ys (set parts x (looked (history_at parts x) by seq)) in
    (ap (λ (ps : List Point). record { part = x; place = length (history_at parts x).events } ∷ ps) rest.0, rest.1)

look_followers : (by seq : ℕ) (xs : List ℕ) (parts : List History) → map (λ (h : History). h.followers) (look_all by seq xs parts).1 ≡ map (λ (h : History). h.followers) parts
look_followers by seq [] parts = refl
look_followers by seq (x ∷ xs) parts =
    let left = looked (history_at parts x) by seq in
    look_followers by seq xs (set parts x left) ∙ set_followers parts x left refl

pub look_size : (by seq : ℕ) (xs : List ℕ) (parts : List History) → length (look_all by seq xs parts).1 ≡ length parts
look_size by seq [] parts = refl
look_size by seq (x ∷ xs) parts =
    let left = looked (history_at parts x) by seq in
    look_size by seq xs (set parts x left) ∙ length-set parts x left

same_part : (r : Accepted) → part_in r ≡ part_asked r
same_part (Refused code) = refl
same_part (Appended part base count) = refl
same_part (Seen part start) = refl

pub asked_parts_are : (steps : List Step) (accepted : List Accepted) → map (λ (step : Step). step.result) steps ≡ accepted → operation_parts steps ≡ parts_asked accepted
asked_parts_are steps accepted is = by_steps steps ∙ ap parts_asked is
  where
    by_steps : (steps : List Step) → operation_parts steps ≡ parts_asked (map (λ (step : Step). step.result) steps)
    by_steps [] = refl
    by_steps (step ∷ steps) =
        ap (λ (o : Option ℕ). cons_option o (operation_parts steps)) (same_part step.result)
        ∙ ap (cons_option (part_asked step.result)) (by_steps steps)

-- ---- it waits no more

abbrev pub done_seat : ℕ → List Point → CallHow → Seat → Seat
done_seat session finish how seat = record {
  inbox = seat.inbox;
  is_shut = seat.is_shut;
  transcript = Some (record (transcript_of session seat) { calls = finish_last finish how (transcript_of session seat).calls });
}

-- what is kept once a request is completed so
abbrev pub finished_of : Kept → ℕ → CallHow → List Accepted → Kept
finished_of kept session how accepted =
    let seq = next_call kept.board session - 1 in
    let looks = look_all session seq (parts_asked accepted) kept.board.parts in
    moved kept looks.1 (clock_after how session seq kept.board.clock) session (done_seat session (clock_points how kept.board.clock ++ looks.0) how (seat_at kept.board session)) None

pub finished_stands : (kept : Kept) (waiting : List Waiting) (session : ℕ) (how : CallHow) (w : Waiting) (accepted : List Accepted) → AreKept kept waiting → session < 64 → waiting_in waiting session ≡ Some w
    → map (λ (step : Step). step.result) w.steps ≡ accepted → StandsFor (finished_of kept session how accepted) (finished (with_waiting kept waiting) w how)
finished_stands kept waiting session how w accepted are there found results =
    let board = with_waiting kept waiting in
    let seq = next_call kept.board session - 1 in
    let looks = look_all session seq (parts_asked accepted) kept.board.parts in
    let clock = clock_after how session seq kept.board.clock in
    let seat = done_seat session (clock_points how kept.board.clock ++ looks.0) how (seat_at kept.board session) in
    let same : w.session ≡ session = found_is waiting session w found in
    let later : List Waiting = others_of session waiting in
    let stands : StandsFor (finished_of kept session how accepted) (with_waiting (finished_of kept session how accepted) later) =
    stands_of (finished_of kept session how accepted) later
    (are_moved kept waiting later looks.1 clock session seat None are there (look_followers session seq (parts_asked accepted) kept.board.parts)
    (subst (MatchesWaiting (partitions_of kept.board.config.topics) (last_frame (transcript_of session seat).calls) None) (sym (waits_no_more waiting session)) tt)
    (λ s other. waits_still waiting s session other)) in
    let asked : operation_parts w.steps ≡ parts_asked accepted = asked_parts_are w.steps accepted results in
    let by_session : ℕ → List ℕ → Board = λ s parts.
    let n = next_call board s - 1 in
    let ls = look_all s n parts board.parts in
    record board {
      parts = ls.1;
      clock = clock_after how s n board.clock;
      seats = set board.seats s (record (seat_at board s) { transcript = Some (record (transcript_at board s) { calls = finish_last (clock_points how board.clock ++ ls.0) how (transcript_at board s).calls }) });
      waiting = others_of s waiting;
    } in
    subst (StandsFor (finished_of kept session how accepted)) (sym (ap (λ (s : ℕ). by_session s (operation_parts w.steps)) same ∙ ap (by_session session) asked)) stands
