-- A play goes on line by line, and its lines keep the configuration.
use Rattle.std.proofs.Common.{◌≡◌, ℕ, zero, suc, ◌+◌, Bool, true, false, List, [], ◌∷◌, ◌++◌, Option, Some, None, MatchBool, refl, sym, ap, subst, ◌∙◌, inl, inr, append-nil, append_assoc}
use Rattle.std.specs.Prelude.{nat_lt, ◌==◌}
use Rattle.std.specs.List.{find, range_with_len}
use Rattle.partlog.specs.History.{History}
use Rattle.partlog.specs.Moment.{moment_of}
use Rattle.kwire.specs.declared.frame.Frame.{Frame}
use Rattle.kwire.specs.declared.frame.Frame.TheVariants.{Whole, NotYet, TooLong}
use Rattle.kwire.specs.declared.request.Request.{Request}
use Rattle.trace_file.specs.declared.line.Line.{Line}
use Rattle.trace_file.specs.declared.line.Line.TheVariants.{Topic, Feed, Shut, Clock, End}
use Rattle.audit.specs.broker.Entering.{Noted, accept_all, shown_of}
use Rattle.kanswer.specs.Decisions.{Decision}
use Rattle.audit.specs.broker.Acting.{HandlesFrame, ActsOn}
use Rattle.audit.specs.broker.Board.{Board, Waiting, seat_at, next_call}
use Rattle.audit.specs.broker.Completing.{is_satisfied_now, is_answerable_now, completed, unless_none, answered_in, scan_sessions, scanned}
use Rattle.kwire.specs.Configuration.{Configuration}
use Rattle.kanswer.specs.Waiting.{becomes_delayed}
use Rattle.kwire.specs.Frames.{next_frame_of}
use Rattle.audit.specs.broker.Turns.{Turned, answered_at_once, left_waiting, handled}
use Rattle.audit.specs.broker.Play.{brought, Rests, PlaysLine, Plays}
use Rattle.audit.specs.declared.account.TheConstants.{MOST_CALLS}
use Rattle.audit.proofs.broker.Cases.{either_way}

-- one line more is played behind the others
pub plays_on : (board : Board) (lines : List Line) (line : Line) (last here : Turned) → Plays board lines last → PlaysLine last.board line here
    → Plays board (lines ++ line ∷ []) (record { board = here.board; text = last.text ++ here.text })
plays_on board [] line last here played next =
    let start : last.board ≡ board = ap (λ (t : Turned). t.board) played in
    let empty : last.text ≡ [] = ap (λ (t : Turned). t.text) played in
    let text : last.text ++ here.text ≡ here.text ++ [] = ap (λ (xs : List ℕ). xs ++ here.text) empty ∙ sym (append-nil here.text) in (
      here,
      record { board = here.board; text = [] },
      subst (λ (b : Board). PlaysLine b line here) start next,
      refl,
      ap (λ (xs : List ℕ). record { board = here.board; text = xs }) text,
    )
plays_on board (l ∷ lines) line last here played next =
    let first = played.0 in
    let rest = played.1 in
    let is = played.4 in
    let behind = plays_on first.board lines line rest here played.3 (subst (λ (t : Turned). PlaysLine t.board line here) is next) in
    let text : last.text ++ here.text ≡ first.text ++ (rest.text ++ here.text) =
    ap (λ (t : Turned). t.text ++ here.text) is ∙ append_assoc first.text rest.text here.text in (
      first,
      record { board = here.board; text = rest.text ++ here.text },
      played.2,
      behind,
      ap (λ (xs : List ℕ). record { board = here.board; text = xs }) text,
    )

-- ---- the configuration stays

-- what the board that was turned to has
abbrev Keeps : Configuration → Turned → Type 0
Keeps config turned = turned.board.config ≡ config

completed_keeps : (board : Board) (w : Waiting) → Keeps board.config (completed board w)
completed_keeps board w = either_way (λ (x : Board). x.config ≡ board.config) (is_satisfied_now board w) _ _ refl refl

unless_keeps : (board : Board) (o : Option Waiting) → Keeps board.config (unless_none board o)
unless_keeps board None = refl
unless_keeps board (Some w) = either_way (Keeps board.config) (is_answerable_now board w) (completed board w) (record { board = board; text = [] }) (completed_keeps board w) refl

scan_keeps : (sessions : List ℕ) (board : Board) → Keeps board.config (scan_sessions sessions board)
scan_keeps [] board = refl
scan_keeps (session ∷ sessions) board =
    scan_keeps sessions (answered_in board session).board ∙ unless_keeps board (find (λ (w : Waiting). w.session == session) board.waiting)

scanned_keeps : (board : Board) → Keeps board.config (scanned board)
scanned_keeps board = scan_keeps (range_with_len 0 64) board

waiting_keeps : (board : Board) (session : ℕ) (body : List ℕ) (request : Request) (came : List Noted × List History) → Keeps board.config (left_waiting board session body request came)
waiting_keeps board session body request came = refl

at_once_keeps : (board : Board) (session : ℕ) (body : List ℕ) (request : Request) (came : List Noted × List History) → Keeps board.config (answered_at_once board session body request came)
at_once_keeps board session body request came = refl

handled_keeps : (board : Board) (session : ℕ) (body : List ℕ) (request : Request) (decisions : List Decision) → Keeps board.config (handled board session body request decisions)
handled_keeps board session body request decisions =
    let came = accept_all session (next_call board session) (moment_of board.clock) decisions board.parts in
    either_way (Keeps board.config) (becomes_delayed request.ask (shown_of came.0)) (left_waiting board session body request came) (answered_at_once board session body request came)
    (waiting_keeps board session body request came) (at_once_keeps board session body request came)

frame_keeps : (board : Board) (session : ℕ) (body : List ℕ) (turned : Turned) → HandlesFrame board session body turned → Keeps board.config turned
frame_keeps board session body turned h =
    elim h [
      | inl took ↦ subst (Keeps board.config) (sym took.4) (handled_keeps board session body took.0 took.1)
      | inr refused ↦ subst (Keeps board.config) (sym refused.2) refl
    ]

whole_keeps : (board : Board) (session : ℕ) (body : List ℕ) (turned ended : Turned) (full : Bool) → Keeps board.config ended
    → MatchBool full (turned ≡ ended) (HandlesFrame board session body turned) → Keeps board.config turned
whole_keeps board session body turned ended true e h = subst (Keeps board.config) (sym h) e
whole_keeps board session body turned ended false e h = frame_keeps board session body turned h

acts_keep : (board : Board) (session : ℕ) (frame : Frame) (turned : Turned) → ActsOn board session frame turned → Keeps board.config turned
acts_keep board session (Whole end) turned h = whole_keeps board session _ turned _ (next_call board session == MOST_CALLS) refl h
acts_keep board session NotYet turned h = subst (Keeps board.config) (sym h) refl
acts_keep board session (TooLong size) turned h = subst (Keeps board.config) (sym h) refl

rests_keep : (acts : ℕ) (board : Board) (turned : Turned) → Rests acts board turned → Keeps board.config turned
rests_keep zero board turned h = subst (Keeps board.config) (sym h.1) (scanned_keeps board)
rests_keep (suc acts) board turned h =
    let act = h.1 in
    let rest = h.2 in
    let scan : (scanned board).board.config ≡ board.config = scanned_keeps board in
    let acted : act.board.config ≡ (scanned board).board.config = acts_keep (scanned board).board h.0 (next_frame_of (seat_at (scanned board).board h.0).inbox) act h.4 in
    let rested : rest.board.config ≡ act.board.config = rests_keep acts act.board rest h.5 in
    ap (λ (t : Turned). t.board.config) h.6 ∙ rested ∙ acted ∙ scan

brought_keeps : (board : Board) (line : Line) → (brought board line).config ≡ board.config
brought_keeps board (Topic name partitions followers least) = refl
brought_keeps board (Feed session bytes) = refl
brought_keeps board (Shut session) = refl
brought_keeps board (Clock t) = either_way (λ (x : Board). x.config ≡ board.config) (nat_lt (moment_of board.clock) t) _ _ refl refl
brought_keeps board End = refl

pub plays_keep : (board : Board) (lines : List Line) (turned : Turned) → Plays board lines turned → Keeps board.config turned
plays_keep board [] turned h = ap (λ (t : Turned). t.board.config) h
plays_keep board (line ∷ lines) turned h =
    let first = h.0 in
    let rest = h.1 in
    let here : first.board.config ≡ board.config = rests_keep h.2.0 (brought board line) first h.2.1 ∙ brought_keeps board line in
    ap (λ (t : Turned). t.board.config) h.4 ∙ plays_keep first.board lines rest h.3 ∙ here
