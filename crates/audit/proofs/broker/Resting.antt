-- Between two lines nothing that waits is answerable: a scan answers what is, and changes no state. So the account is lawful.
use Rattle.std.proofs.Common.{◌≡◌, ◌≢◌, ℕ, zero, suc, ◌+◌, ◌≤◌, ◌<◌, Bool, true, false, ◌||◌, ◌&&◌, not, cond, List, [], ◌∷◌, length, Option, Some, None, unwrap_or, refl, sym, ap, subst, ◌∙◌, arith, inl, inr}
use Rattle.std.proofs.lemmas.Bool.{cases_lt}
use Rattle.std.specs.Prelude.{nat_le, ◌==◌}
use Rattle.std.specs.List.{find, list_any, range_with_len}
use Rattle.partlog.specs.History.{History}
use Rattle.partlog.specs.Moment.{moment_of}
use Rattle.partlog.specs.State.{state_of}
use Rattle.audit.specs.declared.account.Account.{Account}
use Rattle.audit.specs.IsLawful.{IsLawful}
use Rattle.audit.specs.LawfulCall.{operation_parts}
use Rattle.kbytes.proofs.Laws.{same_or_not, some_is}
use Rattle.kanswer.specs.Waiting.{Shown, values_of}
use Rattle.kwire.specs.Configuration.{Configuration}
use Rattle.kwire.specs.Frames.{next_frame_of}
use Rattle.opcond.specs.Tally.{tally}
use Rattle.trace_file.specs.declared.line.Line.{Line}
use Rattle.audit.specs.broker.Acting.{is_there, shows_work, can_act, next_to_act}
use Rattle.audit.specs.broker.AtRest.{IsAtRest}
use Rattle.audit.specs.broker.Board.{Board, Seat, Waiting, new_transcript, history_at, opening}
use Rattle.audit.specs.broker.Completing.{look_all, last_call, is_satisfied_now, is_answerable_now, completed, unless_none, answered_in, scan_sessions, scanned}
use Rattle.kwire.specs.DeclaredTopics.{AreDeclared}
use Rattle.audit.specs.broker.Play.{brought, Rests, Plays, IsPlay}
use Rattle.audit.specs.broker.Turns.{Turned}
use Rattle.audit.proofs.broker.Cases.{either_way}
use Rattle.audit.proofs.broker.Growth.{looked_moment}
use Rattle.audit.proofs.broker.Accepting.{looks_parts, looks_states, shown_in, shown_alike}
use Rattle.audit.proofs.broker.Boards.{IsSound, waiting_of, waits_no_more, waits_still, without, waits_last, waits_there}
use Rattle.audit.proofs.broker.Lawful.{Still, all_from_get, board_lawful}
use Rattle.audit.proofs.broker.Playing.{opening_sound, empty_there, brought_sound, answered_sound, scanned_sound, acts_sound, waits_of_its_own, waits_own}
use Rattle.audit.proofs.broker.Work.{its_turn}

-- ---- what a scan leaves as it was

-- the states and the moment are as they were
pub record IsUnmoved (board later : Board) : Type 0 where
  pub states : (q : ℕ) → state_of (history_at later.parts q) ≡ state_of (history_at board.parts q)
  pub moment : moment_of later.clock ≡ moment_of board.clock

unmoved_self : (board : Board) → IsUnmoved board board
unmoved_self board = record { states = λ q. refl; moment = refl }

-- so the same is answerable
pub unmoved_answerable : (board later : Board) (w : Waiting) → IsUnmoved board later → is_answerable_now later w ≡ is_answerable_now board w
unmoved_answerable board later w same =
    let satisfied = λ (shown : List Shown). nat_le w.operation.least (tally w.operation.needs (values_of w.request.ask shown)) in
    ap (λ (shown : List Shown). satisfied shown || nat_le w.operation.deadline (moment_of later.clock)) (shown_alike board.parts later.parts same.states w.steps)
    ∙ ap (λ (m : ℕ). satisfied (shown_in board.parts w.steps) || nat_le w.operation.deadline m) same.moment

completed_unmoved : (board : Board) (w : Waiting) → IsSound board → waiting_of board.waiting w.session ≡ Some w → IsUnmoved board (completed board w).board
completed_unmoved board w h found =
    let seq = last_call board w.session in
    let ps = operation_parts w.steps in
    let states : (q : ℕ) → state_of (history_at (look_all w.session seq ps board.parts).1 q) ≡ state_of (history_at board.parts q) =
    λ q. ap (λ (parts : List History). state_of (history_at parts q)) (looks_parts w.session seq ps board.parts)
    ∙ looks_states w.session seq (length board.parts) ps board.parts refl (waits_last board w.session w h found).waits.within q in
    either_way (IsUnmoved board) (is_satisfied_now board w) _ _ (record { states = states; moment = refl }) (record { states = states; moment = looked_moment board.clock w.session seq })

completed_waiting : (board : Board) (w : Waiting) → (completed board w).board.waiting ≡ without board.waiting w.session
completed_waiting board w = either_way (λ (x : Board). x.waiting ≡ without board.waiting w.session) (is_satisfied_now board w) _ _ refl refl

-- ---- nothing that waits of a session is answerable

-- one session was asked
record IsAsked (board later : Board) (s : ℕ) : Type 0 where
  unmoved : IsUnmoved board later
  here : Still later s
  others : (r : ℕ) → r ≢ s → waiting_of later.waiting r ≡ waiting_of board.waiting r

unless_asked : (board : Board) (s : ℕ) (o : Option Waiting) → waiting_of board.waiting s ≡ o → IsSound board → IsAsked board (unless_none board o).board s
unless_asked board s None e h = record {
  unmoved = unmoved_self board;
  here = λ w f. absurd (cc (e, f));
  others = λ r other. refl;
}
unless_asked board s (Some w) e h = by_test (is_answerable_now board w) refl
  where
    by_test : (b : Bool) → is_answerable_now board w ≡ b → IsAsked board (cond b (completed board w) (record { board = board; text = [] })).board s
    by_test true is =
        let own : w.session ≡ s = waits_of_its_own board s w e in
        let gone : waiting_of (completed board w).board.waiting s ≡ None =
        ap (λ (ws : List Waiting). waiting_of ws s) (completed_waiting board w) ∙ sym (ap (waiting_of (without board.waiting w.session)) own) ∙ waits_no_more board.waiting w.session in
        record {
          unmoved = completed_unmoved board w h (waits_own board s w e);
          here = λ x f. absurd (cc (gone, f));
          others = λ r other.
              ap (λ (ws : List Waiting). waiting_of ws r) (completed_waiting board w) ∙ waits_still board.waiting w.session r (λ same. other (same ∙ own));
        }
    by_test false is = record {
      unmoved = unmoved_self board;
      here = λ x f. subst (λ (y : Waiting). is_answerable_now board y ≡ false) (some_is w x (sym e ∙ f)) is;
      others = λ r other. refl;
    }

answered_asked : (board : Board) (s : ℕ) → IsSound board → IsAsked board (answered_in board s).board s
answered_asked board s h = unless_asked board s (waiting_of board.waiting s) refl h

-- what was still stays so
still_on : (board later : Board) (s r : ℕ) → r ≢ s → IsAsked board later s → Still board r → Still later r
still_on board later s r other asked still w e = unmoved_answerable board later w asked.unmoved ∙ still w (sym (asked.others r other) ∙ e)

scan_still : (a n : ℕ) (board : Board) → IsSound board → ((r : ℕ) → r < a → Still board r) → (r : ℕ) → r < a + n → Still (scan_sessions (range_with_len a n) board).board r
scan_still a zero board h still r lt = still r (omega (arith, lt))
scan_still a (suc n) board h still r lt =
    let here = (answered_in board a).board in
    let asked = answered_asked board a h in
    scan_still (a + 1) n here (answered_sound board a h) (λ q below. elim (same_or_not q a) [
      | inl same ↦ subst (Still here) (sym same) asked.here
      | inr other ↦ still_on board here a q other asked (still q (before q a below other))
    ]) r (omega (arith, lt))
  where
    before : (q b : ℕ) → q < b + 1 → q ≢ b → q < b
    before q b below other = omega arith

none_behind : (board : Board) (r : ℕ) → IsSound board → 64 ≤ r → Still board r
none_behind board r h past w e = absurd (omega (arith, past, waits_there board r w h e))

pub scanned_still : (board : Board) → IsSound board → (r : ℕ) → Still (scanned board).board r
scanned_still board h r = elim (cases_lt r 64) [
  | inl lt ↦ scan_still 0 64 board h (λ q below. absurd (omega (arith, below))) r (omega (arith, lt))
  | inr past ↦ none_behind (scanned board).board r (scanned_sound board h) past
]

-- ---- after lines

-- sound, and at rest
pub record IsSettled (board : Board) : Type 0 where
  pub sound : IsSound board
  pub still : (r : ℕ) → Still board r
  pub idle : next_to_act board ≡ None

pub rests_settled : (acts : ℕ) (board : Board) (turned : Turned) → IsSound board → Rests acts board turned → IsSettled turned.board
rests_settled zero board turned h rests =
    subst (λ (t : Turned). IsSettled t.board) (sym rests.1) (record { sound = scanned_sound board h; still = scanned_still board h; idle = rests.0 })
rests_settled (suc acts) board turned h rests =
    let here = scanned_sound board h in
    let acted = acts_sound (scanned board).board rests.0 rests.1 here (its_turn (scanned board).board rests.0 rests.3) rests.4 in
    subst (λ (t : Turned). IsSettled t.board) (sym rests.6) (rests_settled acts rests.1.board rests.2 acted rests.5)

pub plays_settled : (board : Board) (lines : List Line) (turned : Turned) → IsSettled board → Plays board lines turned → IsSettled turned.board
plays_settled board [] turned h played = subst (λ (t : Turned). IsSettled t.board) (sym played) h
plays_settled board (line ∷ lines) turned h played =
    let here = rests_settled played.2.0 (brought board line) played.0 (brought_sound board line h.sound) played.2.1 in
    subst (λ (t : Turned). IsSettled t.board) (sym played.4) (plays_settled played.0.board lines played.1 here played.3)

find_nothing : (p : ℕ → Bool) (xs : List ℕ) → ((x : ℕ) → p x ≡ false) → find p xs ≡ None
find_nothing p [] none = refl
find_nothing p (x ∷ xs) none = ap (λ (b : Bool). cond b (Some x) (find p xs)) (none x) ∙ find_nothing p xs none

opening_idle : (config : Configuration) (s : ℕ) → can_act (opening config) s ≡ false
opening_idle config s =
    ap (λ (seat : Seat). not (is_there (unwrap_or seat.transcript (new_transcript s)).end) && (not (list_any (λ (w : Waiting). w.session == s) []) && shows_work seat.is_shut (next_frame_of seat.inbox)))
    (empty_there 64 s)

pub opening_settled : (config : Configuration) → AreDeclared config.topics → IsSettled (opening config)
opening_settled config declared = record {
  sound = opening_sound config declared.few;
  still = λ r w e. absurd cc;
  idle = find_nothing (can_act (opening config)) (range_with_len 0 64) (opening_idle config);
}

-- ---- the laws

pub settled_rests : (board : Board) → IsSettled board → IsAtRest board
settled_rests board h = record {
  waits = all_from_get (λ w. is_answerable_now board w ≡ false) board.waiting (λ i w e. h.still w.session w (h.sound.sound.alone i w e));
  idle = h.idle;
}

pub play_rests : (config : Configuration) (lines : List Line) (last : Turned) → AreDeclared config.topics → Plays (opening config) lines last → IsAtRest last.board
play_rests config lines last declared played = settled_rests last.board (plays_settled (opening config) lines last (opening_settled config declared) played)

pub play_is_lawful : (config : Configuration) (lines : List Line) (account : Account) (text : List ℕ) → AreDeclared config.topics → IsPlay config lines account text → IsLawful account
play_is_lawful config lines account text declared play =
    let settled = plays_settled (opening config) lines play.last (opening_settled config declared) play.played in
    subst IsLawful (sym play.accounted) (board_lawful play.last.board settled.sound settled.still)
