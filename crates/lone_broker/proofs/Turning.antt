-- How what is kept turns: one turn after the other, the scan over the sessions, whose turn it is, and the acts of a line.
use Rattle.std.proofs.Common.{◌≡◌, ℕ, zero, suc, ◌+◌, ◌<◌, Bool, true, false, cond, not, ◌&&◌, ◌||◌, List, [], ◌∷◌, ◌++◌, Option, Some, None, unwrap_or, refl, sym, ap, subst, ◌∙◌, arith, append_assoc, append-nil, zero-add, add-one}
use Rattle.std.specs.Prelude.{◌==◌, is_some}
use Rattle.std.specs.List.{find, list_any, range_with_len}
use Rattle.audit.specs.broker.Acting.{Acts, can_act, has_ended, has_work, is_there, next_to_act, shows_work}
use Rattle.audit.specs.broker.Board.{Board, Waiting, new_transcript, seat_at}
use Rattle.audit.specs.broker.Completing.{answered_in, scan_sessions, scanned}
use Rattle.audit.specs.broker.Play.{PlaysLine, Rests, brought}
use Rattle.audit.specs.broker.Turns.{Turned}
use Rattle.audit.specs.declared.account.Transcript.{Transcript}
use Rattle.trace_file.specs.declared.line.Line.{Line}
use Rattle.kwire.specs.Frames.{next_frame_of}
use Rattle.lone_broker.specs.Kept.{Kept, StandsFor, Stands, TurnsBy, AreKept, MatchesWaiting, parked_at, waiting_in, with_waiting}
use Rattle.lone_broker.specs.declared.parked.Parked.{Parked}

abbrev pub turned : Board → List ℕ → Turned
turned board text = record { board = board; text = text }

-- ---- turns

-- what stands for a board afterwards too
pub stands_then : (P : Board → Turned → Type 0) (before after : Kept) (text more : List ℕ) → TurnsBy P before after text more → Stands before → Stands after
stands_then P before after text more turns stands = let t = turns stands.0 stands.1 in (t.0.board, t.2)

-- nothing happens
pub turns_none : (P : Board → Turned → Type 0) (kept : Kept) (text : List ℕ) → ((board : Board) → StandsFor kept board → P board (turned board [])) → TurnsBy P kept kept text text
turns_none P kept text none board stands = (turned board [], none board stands, stands, sym (append-nil text))

-- one turn after the other
pub turns_on : (P Q R : Board → Turned → Type 0) (a b c : Kept) (t u v : List ℕ) → ((x : Board) (p q : Turned) → P x p → Q p.board q → R x (turned q.board (p.text ++ q.text)))
    → TurnsBy P a b t u → TurnsBy Q b c u v → TurnsBy R a c t v
turns_on P Q R a b c t u v both one two board stands =
    let p = one board stands in
    let q = two p.0.board p.2 in
    (turned q.0.board (p.0.text ++ q.0.text), both board p.0 q.0 p.1 q.1, q.2, q.3 ∙ ap (λ (s : List ℕ). s ++ q.0.text) p.3 ∙ append_assoc t p.0.text q.0.text)

-- ---- the scan

range_more : (a n : ℕ) → range_with_len a (suc n) ≡ range_with_len a n ++ (a + n) ∷ []
range_more a zero = let e : a ≡ a + 0 = omega arith in ap (λ (k : ℕ). k ∷ []) e
range_more a (suc n) =
    let first : a + suc n ≡ a + 1 + n = omega arith in
    ap (λ (ks : List ℕ). a ∷ ks) (range_more (a + 1) n ∙ ap (λ (k : ℕ). range_with_len (a + 1) n ++ k ∷ []) (sym first))

scan_more : (sessions : List ℕ) (s : ℕ) (board : Board) → scan_sessions (sessions ++ s ∷ []) board
    ≡ turned (answered_in (scan_sessions sessions board).board s).board ((scan_sessions sessions board).text ++ (answered_in (scan_sessions sessions board).board s).text)
scan_more [] s board = ap (turned (answered_in board s).board) (append-nil (answered_in board s).text)
scan_more (first ∷ sessions) s board =
    let here = answered_in board first in
    let front = scan_sessions sessions here.board in
    let last = answered_in front.board s in
    ap (λ (t : Turned). turned t.board (here.text ++ t.text)) (scan_more sessions s here.board)
    ∙ ap (turned last.board) (sym (append_assoc here.text front.text last.text))

-- the sessions below this number were scanned
abbrev pub ScannedBelow : ℕ → Board → Turned → Type 0
ScannedBelow n board t = t ≡ scan_sessions (range_with_len 0 n) board

pub scanned_more : (n : ℕ) (x : Board) (p q : Turned) → ScannedBelow n x p → q ≡ answered_in p.board n → ScannedBelow (n + 1) x (turned q.board (p.text ++ q.text))
scanned_more n x p q front last =
    let p1 : turned q.board (p.text ++ q.text) ≡ turned (answered_in p.board n).board (p.text ++ (answered_in p.board n).text) = ap (λ (t : Turned). turned t.board (p.text ++ t.text)) last in
    let p2 : turned (answered_in p.board n).board (p.text ++ (answered_in p.board n).text)
    ≡ turned (answered_in (scan_sessions (range_with_len 0 n) x).board n).board ((scan_sessions (range_with_len 0 n) x).text ++ (answered_in (scan_sessions (range_with_len 0 n) x).board n).text) =
    ap (λ (t : Turned). turned (answered_in t.board n).board (t.text ++ (answered_in t.board n).text)) front in
    let zero_first : 0 + n ≡ n = omega arith in
    p1 ∙ p2 ∙ sym (scan_more (range_with_len 0 n) n x) ∙ ap (λ (ks : List ℕ). scan_sessions ks x) (ap (λ (k : ℕ). range_with_len 0 n ++ k ∷ []) (sym zero_first) ∙ sym (range_more 0 n) ∙ ap (range_with_len 0) (sym (add-one n)))

-- ---- whether a session can act

either_waits : (b rest : Bool) (w : Waiting) (o : Option Waiting) → rest ≡ is_some o → (b || rest) ≡ is_some (cond b (Some w) o)
either_waits true rest w o same = refl
either_waits false rest w o same = same

any_waits : (waiting : List Waiting) (s : ℕ) → list_any (λ (w : Waiting). w.session == s) waiting ≡ is_some (waiting_in waiting s)
any_waits [] s = refl
any_waits (w ∷ waiting) s = either_waits (w.session == s) (list_any (λ (x : Waiting). x.session == s) waiting) w (waiting_in waiting s) (any_waits waiting s)

pub matches_some : (parts : ℕ) (frame : List ℕ) (o : Option Parked) (w : Option Waiting) → MatchesWaiting parts frame o w → is_some w ≡ is_some o
matches_some parts frame None None m = refl
matches_some parts frame None (Some w) m = absurd m
matches_some parts frame (Some p) None m = absurd m
matches_some parts frame (Some p) (Some w) m = refl

over_is : (transcript : Option Transcript) (session : ℕ) → is_there (unwrap_or transcript (new_transcript session)).end ≡ has_ended transcript
over_is None session = refl
over_is (Some transcript) session = refl

-- nothing waits there, and it has work
swapped : (ended idle works : Bool) → (not ended && (idle && works)) ≡ (idle && (not ended && works))
swapped true true works = refl
swapped true false works = refl
swapped false true works = refl
swapped false false works = refl

pub acts_as_shown : (kept : Kept) (waiting : List Waiting) (s : ℕ) → AreKept kept waiting
    → can_act (with_waiting kept waiting) s ≡ (not (is_some (parked_at kept s)) && has_work (seat_at kept.board s))
acts_as_shown kept waiting s are =
    let seat = seat_at kept.board s in
    let none : list_any (λ (w : Waiting). w.session == s) waiting ≡ is_some (parked_at kept s) = any_waits waiting s ∙ matches_some _ _ (parked_at kept s) (waiting_in waiting s) (are.waits s) in
    let shows : Bool = shows_work seat.is_shut (next_frame_of seat.inbox) in
    ap (λ (b : Bool). not b && (not (list_any (λ (w : Waiting). w.session == s) waiting) && shows)) (over_is seat.transcript s)
    ∙ ap (λ (b : Bool). not (has_ended seat.transcript) && (not b && shows)) none
    ∙ swapped (has_ended seat.transcript) (not (is_some (parked_at kept s))) shows

-- ---- whose turn it is

found_first : (p : ℕ → Bool) (a n i : ℕ) → i < n → p (a + i) ≡ true → ((j : ℕ) → j < i → p (a + j) ≡ false) → find p (range_with_len a n) ≡ Some (a + i)
found_first p a zero i lt here before = absurd (omega (arith, lt))
found_first p a (suc n) zero lt here before =
    let same : a ≡ a + 0 = omega arith in
    let yes : p a ≡ true = ap p same ∙ here in
    rw yes (ap Some same)
found_first p a (suc n) (suc i) lt here before =
    let none : a ≡ a + 0 = omega arith in
    let no : p a ≡ false = ap p none ∙ before 0 (omega arith) in
    let next : a + 1 + i ≡ a + suc i = omega arith in
    let later = found_first p (a + 1) n i (omega (arith, lt)) (ap p next ∙ here) (λ j less. let on : a + 1 + j ≡ a + suc j = omega arith in ap p on ∙ before (suc j) (omega (arith, less))) in
    rw no (later ∙ ap Some next)

found_nobody : (p : ℕ → Bool) (a n : ℕ) → ((j : ℕ) → j < n → p (a + j) ≡ false) → find p (range_with_len a n) ≡ None
found_nobody p a zero none = refl
found_nobody p a (suc n) none =
    let first : a ≡ a + 0 = omega arith in
    let no : p a ≡ false = ap p first ∙ none 0 (omega arith) in
    rw no (found_nobody p (a + 1) n (λ j less. let on : a + 1 + j ≡ a + suc j = omega arith in ap p on ∙ none (suc j) (omega (arith, less))))

pub its_turn : (board : Board) (session : ℕ) → session < 64 → can_act board session ≡ true → ((j : ℕ) → j < session → can_act board j ≡ false) → next_to_act board ≡ Some session
its_turn board session lt can before =
    found_first (can_act board) 0 64 session lt (ap (can_act board) (zero-add session) ∙ can) (λ j less. ap (can_act board) (zero-add j) ∙ before j less) ∙ ap Some (zero-add session)

pub nobodys_turn : (board : Board) → ((j : ℕ) → j < 64 → can_act board j ≡ false) → next_to_act board ≡ None
nobodys_turn board none = found_nobody (can_act board) 0 64 (λ j less. ap (can_act board) (zero-add j) ∙ none j less)

-- ---- the acts of a line

rests_act : (board : Board) (k session : ℕ) (act rest : Turned) → next_to_act (scanned board).board ≡ Some session → Acts (scanned board).board session act → Rests k act.board rest
    → Rests (suc k) board (turned rest.board ((scanned board).text ++ (act.text ++ rest.text)))
rests_act board k session act rest turn acts r = (session, act, rest, turn, acts, r, refl)

-- after some acts the board is this, and this was printed
abbrev pub Comes : Board → Turned → Type 0
Comes start t = (n : ℕ) × ((k : ℕ) (rest : Turned) → Rests k t.board rest → Rests (n + k) start (turned rest.board (t.text ++ rest.text)))

pub comes_nowhere : (board : Board) → Comes board (turned board [])
comes_nowhere board = (0, λ k rest r. subst (λ (n : ℕ). Rests n board (turned rest.board ([] ++ rest.text))) (sym (zero-add k)) r)

-- a scan, and the act of the session whose turn it then is
abbrev pub TakesTurn : Board → Turned → Type 0
TakesTurn board t = (session : ℕ) × (act : Turned) × (next_to_act (scanned board).board ≡ Some session) × Acts (scanned board).board session act
    × (t ≡ turned act.board ((scanned board).text ++ act.text))

pub comes_on : (x : Board) (p q : Turned) → Comes x p → TakesTurn p.board q → Comes x (turned q.board (p.text ++ q.text))
comes_on x p q came takes = (
  came.0 + 1,
  λ k rest r.
      let scan = scanned p.board in
      let act = takes.1 in
      let here : Rests k act.board rest = subst (λ (t : Turned). Rests k t.board rest) takes.4 r in
      let more : came.0 + suc k ≡ came.0 + 1 + k = omega arith in
      let all = came.1 (suc k) (turned rest.board (scan.text ++ (act.text ++ rest.text))) (rests_act p.board k takes.0 act rest takes.2 takes.3 here) in
      let text : p.text ++ (scan.text ++ (act.text ++ rest.text)) ≡ (p.text ++ q.text) ++ rest.text =
      ap (λ (t : List ℕ). p.text ++ t) (sym (append_assoc scan.text act.text rest.text)) ∙ sym (append_assoc p.text (scan.text ++ act.text) rest.text) ∙ ap (λ (t : Turned). (p.text ++ t.text) ++ rest.text) (sym takes.4) in
      subst (λ (n : ℕ). Rests n x (turned rest.board ((p.text ++ q.text) ++ rest.text))) more
      (subst (λ (t : List ℕ). Rests (came.0 + suc k) x (turned rest.board t)) text all),
)

-- after a scan it is nobody's turn
abbrev pub IsLast : Board → Turned → Type 0
IsLast board t = (t ≡ scanned board) × (next_to_act t.board ≡ None)

pub comes_to_rest : (x : Board) (p q : Turned) → Comes x p → IsLast p.board q → (acts : ℕ) × Rests acts x (turned q.board (p.text ++ q.text))
comes_to_rest x p q came last =
    let none : next_to_act (scanned p.board).board ≡ None = subst (λ (t : Turned). next_to_act t.board ≡ None) last.0 last.1 in
    (came.0 + 0, came.1 0 q (none, last.0))

-- a line is taken in, and then the acts
pub plays : (board : Board) (line : Line) (t : Turned) → ((acts : ℕ) × Rests acts (brought board line) t) → PlaysLine board line t
plays board line t rests = rests

-- ---- a scan and an act

pub takes_turn : (a b c : Kept) (session : ℕ) (t u v : List ℕ) → TurnsBy (λ board x. x ≡ scanned board) a b t u → ((board : Board) → StandsFor b board → next_to_act board ≡ Some session) → TurnsBy (λ board. Acts board session) b c u v → TurnsBy TakesTurn a c t v
takes_turn a b c session t u v scan turn act board stands =
    let p = scan board stands in
    let q = act p.0.board p.2 in
    let same : p.0 ≡ scanned board = p.1 in
    let whose : next_to_act (scanned board).board ≡ Some session = subst (λ (x : Turned). next_to_act x.board ≡ Some session) same (turn p.0.board p.2) in
    let acts : Acts (scanned board).board session q.0 = subst (λ (x : Turned). Acts x.board session q.0) same q.1 in (
      turned q.0.board (p.0.text ++ q.0.text),
      (session, q.0, whose, acts, ap (λ (x : Turned). turned q.0.board (x.text ++ q.0.text)) same),
      q.2,
      q.3 ∙ ap (λ (s : List ℕ). s ++ q.0.text) p.3 ∙ append_assoc t p.0.text q.0.text,
    )

pub last_turn : (a b : Kept) (t u : List ℕ) → TurnsBy (λ board x. x ≡ scanned board) a b t u → ((board : Board) → StandsFor b board → next_to_act board ≡ None) → TurnsBy IsLast a b t u
last_turn a b t u scan nobody board stands = let p = scan board stands in (p.0, (p.1, nobody p.0.board p.2), p.2, p.3)
