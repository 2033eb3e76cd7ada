-- The worked trace: its play, line by line.
use Rattle.std.proofs.Common.{◌≡◌, ℕ, ◌+◌, ◌-◌, ℤ, pos, negsuc, Bool, false, List, [], ◌∷◌, ◌++◌, length, take, drop, Some, None, MatchBool, refl, sym, ap, subst, ◌∙◌, arith, inl, inr}
use Rattle.std.specs.Prelude.{codes, ◌==◌}
use Rattle.audit.specs.declared.account.Account.{Account}
use Rattle.audit.specs.declared.account.CallHow.TheVariants.{Satisfied}
use Rattle.audit.specs.declared.account.SessionEnd.TheVariants.{CallsFull}
use Rattle.audit.specs.declared.account.TheConstants.{MOST_CALLS}
use Rattle.audit.specs.Histories.{calls_of}
use Rattle.audit.specs.IsLawful.{IsLawful}
use Rattle.audit.specs.Printed.{summary_of}
use Rattle.audit.specs.Worked.{at, followed}
use Rattle.kanswer.specs.Decisions.{Decision, AskLog, Decides, append_outcome, fetch_outcome}
use Rattle.kwire.specs.declared.frame.Frame.{Frame}
use Rattle.kwire.specs.declared.frame.Frame.TheVariants.{Whole}
use Rattle.kwire.specs.declared.request.Request.{Request}
use Rattle.kwire.specs.Frames.{framed, next_frame_of}
use Rattle.kwire.specs.IsRequest.{IsRequest}
use Rattle.trace_file.specs.declared.line.Line.{Line}
use Rattle.trace_file.specs.declared.line.Line.TheVariants as lines
use Rattle.audit.specs.broker.Acting.{next_to_act, HandlesFrame, ActsOn}
use Rattle.audit.specs.broker.Board.{Board, seat_at, next_call, opening, account_of}
use Rattle.audit.specs.broker.Completing.{scanned}
use Rattle.kwire.specs.DeclaredTopics.{AreDeclared}
use Rattle.audit.specs.broker.Play.{brought, PlaysLine, Plays, IsPlay}
use Rattle.audit.specs.broker.Turns.{Turned, handled, ended}
use Rattle.audit.specs.broker.Worked.{produced}
use Rattle.audit.specs.broker.WorkedPlay.{batch, produce, follow, poll, body_of, worked_lines, polled}
use Rattle.audit.proofs.broker.PlayOnce.{play_is_one}
use Rattle.audit.proofs.broker.Resting.{play_is_lawful}
use Rattle.audit.proofs.broker.WorkedBodies.{produce_body, follow_body, poll_body, letter, one_batch}

-- ---- lines of a play

-- as the line came, and the waiting ones were asked
abbrev asked_after : Board → Line → Board
asked_after board line = (scanned (brought board line)).board

-- nobody acts
nobody : (board : Board) (line : Line) → next_to_act (asked_after board line) ≡ None → PlaysLine board line (scanned (brought board line))
nobody board line e = (0, (e, refl))

-- the first frame of a session is handled
abbrev front_body : Board → ℕ → ℕ → List ℕ
front_body board s end = take (end - 4) (drop 4 (seat_at board s).inbox)

abbrev did : Board → Line → ℕ → ℕ → Request → List Decision → Turned
did board line s end request decisions = handled (asked_after board line) s (front_body (asked_after board line) s end) request decisions

abbrev next : Board → Line → ℕ → ℕ → Request → List Decision → Turned
next board line s end request decisions = record {
  board = (scanned (did board line s end request decisions).board).board;
  text = (scanned (brought board line)).text ++ ((did board line s end request decisions).text ++ (scanned (did board line s end request decisions).board).text);
}

one : (board : Board) (line : Line) (s end : ℕ) (request : Request) (decisions : List Decision) → next_to_act (asked_after board line) ≡ Some s
    → next_frame_of (seat_at (asked_after board line) s).inbox ≡ Whole end → (next_call (asked_after board line) s == MOST_CALLS) ≡ false
    → IsRequest (front_body (asked_after board line) s end) request → Decides (asked_after board line).config request.ask decisions
    → next_to_act (scanned (did board line s end request decisions).board).board ≡ None → PlaysLine board line (next board line s end request decisions)
one board line s end request decisions turn frame room reads decided rest =
    let here = asked_after board line in
    let act = did board line s end request decisions in
    let handles : HandlesFrame here s (front_body here s end) act = inl (request, decisions, reads, decided, refl) in
    let whole : ActsOn here s (Whole end) act = subst (λ (b : Bool). MatchBool b (act ≡ ended here s CallsFull) (HandlesFrame here s (front_body here s end) act)) (sym room) handles in
    (1, (s, act, scanned act.board, turn, subst (λ (f : Frame). ActsOn here s f act) (sym frame) whole, (rest, refl), refl))

on : (board : Board) (line : Line) (others : List Line) (here rest : Turned) → PlaysLine board line here → Plays here.board others rest
    → Plays board (line ∷ others) (record { board = rest.board; text = here.text ++ rest.text })
on board line others here rest p q = (here, rest, p, q, refl)

-- ---- the worked ones

-- what is decided of each of the three requests
abbrev put_it : Decision
put_it = AskLog 0 (append_outcome (pos 3) 1 0 1 batch)

abbrev fetched_by : ℤ → Decision
fetched_by replica = AskLog 0 (fetch_outcome 1 replica (record { index = pos 0; offset = pos 1; log_start = negsuc 0; most = pos 1000 }) 0)

abbrev end_of : Request → ℕ
end_of request = 4 + length (body_of request)

abbrev first_line : Line
first_line = lines.Feed 0 (framed (body_of produce))

abbrev second_line : Line
second_line = lines.Feed 1 (framed (body_of follow))

abbrev third_line : Line
third_line = lines.Feed 2 (framed (body_of poll))

-- the board behind each line
abbrev start : Board
start = (scanned (brought (opening followed) (lines.Topic (codes "t") 1 1 1))).board

abbrev parked : Board
parked = (next start first_line 0 (end_of produce) produce (put_it ∷ [])).board

abbrev caught_up : Board
caught_up = (next parked second_line 1 (end_of follow) follow (fetched_by (pos 1) ∷ [])).board

abbrev polling : Board
polling = (next caught_up third_line 2 (end_of poll) poll (fetched_by (negsuc 0) ∷ [])).board

abbrev early : Board
early = asked_after polling (lines.Clock 99)

abbrev expired : Board
expired = asked_after early (lines.Clock 100)

abbrev last : Board
last = asked_after expired lines.End

puts : PlaysLine start first_line (next start first_line 0 (end_of produce) produce (put_it ∷ []))
puts = one start first_line 0 (end_of produce) produce (put_it ∷ []) refl refl refl produce_body (inr (letter ∷ [], one_batch, refl), tt) refl

catches_up : PlaysLine parked second_line (next parked second_line 1 (end_of follow) follow (fetched_by (pos 1) ∷ []))
catches_up = one parked second_line 1 (end_of follow) follow (fetched_by (pos 1) ∷ []) refl refl refl follow_body refl refl

comes_to_wait : PlaysLine caught_up third_line (next caught_up third_line 2 (end_of poll) poll (fetched_by (negsuc 0) ∷ []))
comes_to_wait = one caught_up third_line 2 (end_of poll) poll (fetched_by (negsuc 0) ∷ []) refl refl refl poll_body refl refl

-- the play of all lines
pub all_played : (t : Turned) × Plays (opening followed) worked_lines t × (t.board ≡ last)
all_played =
    let nothing : Turned = record { board = last; text = [] } in
    let at_end = on expired lines.End [] (scanned (brought expired lines.End)) nothing (nobody expired lines.End refl) refl in
    let at_100 = on early (lines.Clock 100) (lines.End ∷ []) (scanned (brought early (lines.Clock 100))) _ (nobody early (lines.Clock 100) refl) at_end in
    let at_99 = on polling (lines.Clock 99) (lines.Clock 100 ∷ lines.End ∷ []) (scanned (brought polling (lines.Clock 99))) _ (nobody polling (lines.Clock 99) refl) at_100 in
    let polls = on caught_up third_line (lines.Clock 99 ∷ lines.Clock 100 ∷ lines.End ∷ []) (next caught_up third_line 2 (end_of poll) poll (fetched_by (negsuc 0) ∷ [])) _ comes_to_wait at_99 in
    let fetches_it = on parked second_line (third_line ∷ lines.Clock 99 ∷ lines.Clock 100 ∷ lines.End ∷ []) (next parked second_line 1 (end_of follow) follow (fetched_by (pos 1) ∷ [])) _ catches_up polls in
    let put = on start first_line (second_line ∷ third_line ∷ lines.Clock 99 ∷ lines.Clock 100 ∷ lines.End ∷ []) (next start first_line 0 (end_of produce) produce (put_it ∷ [])) _ puts fetches_it in (
      _,
      on (opening followed) (lines.Topic (codes "t") 1 1 1) (first_line ∷ second_line ∷ third_line ∷ lines.Clock 99 ∷ lines.Clock 100 ∷ lines.End ∷ []) (scanned (brought (opening followed) (lines.Topic (codes "t") 1 1 1))) _
          (nobody (opening followed) (lines.Topic (codes "t") 1 1 1) refl) put,
      refl,
    )

same_account : (account : Account) (text : List ℕ) → IsPlay followed worked_lines account text → account ≡ account_of last
same_account account text play =
    let mine = all_played in
    let whole : IsPlay followed worked_lines (account_of mine.0.board) (mine.0.text ++ summary_of (account_of mine.0.board)) = record { last = mine.0; played = mine.1; accounted = refl; printed = refl } in
    (play_is_one followed worked_lines account (account_of mine.0.board) text (mine.0.text ++ summary_of (account_of mine.0.board)) play whole).0 ∙ ap account_of mine.2

-- the produce was satisfied by its follower's fetch
pub satisfied : (account : Account) (text : List ℕ) → IsPlay followed worked_lines account text → calls_of account 0 ≡ produced (body_of produce) (at 0 2 ∷ []) (Satisfied 0) ∷ []
satisfied account text play = ap (λ (a : Account). calls_of a 0) (same_account account text play)

-- the consumer's fetch expired
pub expires : (account : Account) (text : List ℕ) → IsPlay followed worked_lines account text → calls_of account 2 ≡ polled ∷ []
expires account text play = ap (λ (a : Account). calls_of a 2) (same_account account text play)

followed_declared : AreDeclared followed.topics
followed_declared = record { each = ((omega arith, omega arith, omega arith, omega arith, omega arith), tt); few = omega arith }

pub worked_lawful : (account : Account) (text : List ℕ) → IsPlay followed worked_lines account text → IsLawful account
worked_lawful account text play = play_is_lawful followed worked_lines account text followed_declared play
