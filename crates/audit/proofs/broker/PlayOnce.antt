-- Lines come to one play: what is decided of a request, what a session does as it acts, and when all are at rest, is one thing each.
use Rattle.std.proofs.Common.{◌≡◌, ℕ, zero, suc, Bool, true, false, List, [], ◌∷◌, ◌++◌, take, Option, Some, None, MatchBool, inl, inr, refl, sym, ap, subst, ◌∙◌, append_assoc}
use Rattle.std.specs.Prelude.{◌==◌}
use Rattle.kanswer.proofs.Laws.{decided_once}
use Rattle.audit.specs.declared.account.Account.{Account}
use Rattle.kwire.specs.declared.frame.Frame.{Frame}
use Rattle.kwire.specs.declared.frame.Frame.TheVariants.{Whole, NotYet, TooLong}
use Rattle.kwire.specs.declared.frame.WireFault.{WireFault}
use Rattle.audit.specs.declared.account.SessionEnd.TheVariants.{Refused}
use Rattle.kwire.specs.declared.request.Request.{Request}
use Rattle.trace_file.specs.declared.line.Line.{Line}
use Rattle.kanswer.specs.Decisions.{Decides}
use Rattle.kwire.specs.Configuration.{Configuration}
use Rattle.audit.specs.broker.Acting.{next_to_act, Acts, ActsOn, HandlesFrame}
use Rattle.audit.specs.broker.Board.{Board, seat_at, next_call, opening, account_of}
use Rattle.audit.specs.broker.Completing.{scanned}
use Rattle.kwire.specs.Frames.{next_frame_of}
use Rattle.audit.specs.broker.Turns.{Turned, handled, ended}
use Rattle.audit.specs.broker.Play.{brought, Rests, PlaysLine, Plays, IsPlay}
use Rattle.audit.specs.Printed.{summary_of}
use Rattle.kbytes.proofs.Laws.{some_is}
use Rattle.kwire.proofs.Laws.{same_request, same_refusal, not_both}
use Rattle.audit.specs.declared.account.TheConstants.{MOST_CALLS}

-- ---- what is done

frame_once : (board : Board) (session : ℕ) (body : List ℕ) (t u : Turned) → HandlesFrame board session body t → HandlesFrame board session body u → t ≡ u
frame_once board session body t u p q =
    elim p [
      | inl f ↦ elim q [
        | inl g ↦
            let same : f.0 ≡ g.0 = same_request body f.0 g.0 f.2 g.2 in
            let decided : f.1 ≡ g.1 = decided_once board.config f.0.ask f.1 g.1 f.3 (subst (λ (r : Request). Decides board.config r.ask g.1) (sym same) g.3) in
            f.4 ∙ ap (λ (r : Request). handled board session body r f.1) same ∙ ap (handled board session body g.0) decided ∙ sym g.4
        | inr w ↦ absurd (not_both body f.0 w.0 f.2 w.1)
      ]
      | inr v ↦ elim q [
        | inl g ↦ absurd (not_both body g.0 v.0 g.2 v.1)
        | inr w ↦ v.2 ∙ ap (λ (why : WireFault). ended board session (Refused why)) (same_refusal body v.0 w.0 v.1 w.1) ∙ sym w.2
      ]
    ]

whole_once : (full : Bool) (board : Board) (session : ℕ) (body : List ℕ) (t u last : Turned) → MatchBool full (t ≡ last) (HandlesFrame board session body t) → MatchBool full (u ≡ last) (HandlesFrame board session body u) → t ≡ u
whole_once true board session body t u last p q = p ∙ sym q
whole_once false board session body t u last p q = frame_once board session body t u p q

act_once : (board : Board) (session : ℕ) (frame : Frame) (t u : Turned) → ActsOn board session frame t → ActsOn board session frame u → t ≡ u
act_once board session (Whole end) t u p q = whole_once (next_call board session == MOST_CALLS) board session _ t u _ p q
act_once board session NotYet t u p q = p ∙ sym q
act_once board session (TooLong size) t u p q = p ∙ sym q

nobody_and_somebody : (o : Option ℕ) (s : ℕ) → o ≡ None → o ≡ Some s → ⊥
nobody_and_somebody o s p q = absurd cc

rests_once : (n m : ℕ) (board : Board) (t u : Turned) → Rests n board t → Rests m board u → t ≡ u
rests_once zero zero board t u p q = p.1 ∙ sym q.1
rests_once zero (suc m) board t u p q = absurd (nobody_and_somebody (next_to_act (scanned board).board) q.0 p.0 q.3)
rests_once (suc n) zero board t u p q = absurd (nobody_and_somebody (next_to_act (scanned board).board) p.0 q.0 p.3)
rests_once (suc n) (suc m) board t u p q =
    let here = (scanned board).board in
    let session : p.0 ≡ q.0 = some_is p.0 q.0 (sym p.3 ∙ q.3) in
    let act : p.1 ≡ q.1 = act_once here p.0 (next_frame_of (seat_at here p.0).inbox) p.1 q.1 p.4 (subst (λ (s : ℕ). Acts here s q.1) (sym session) q.4) in
    let rest : p.2 ≡ q.2 = rests_once n m p.1.board p.2 q.2 p.5 (subst (λ (a : Turned). Rests m a.board q.2) (sym act) q.5) in
    p.6 ∙ ap (λ (a : Turned). record { board = p.2.board; text = (scanned board).text ++ (a.text ++ p.2.text) }) act
    ∙ ap (λ (r : Turned). record { board = r.board; text = (scanned board).text ++ (q.1.text ++ r.text) }) rest ∙ sym q.6

line_once : (board : Board) (line : Line) (t u : Turned) → PlaysLine board line t → PlaysLine board line u → t ≡ u
line_once board line t u p q = rests_once p.0 q.0 (brought board line) t u p.1 q.1

-- ---- the lines

plays_once : (board : Board) (lines : List Line) (t u : Turned) → Plays board lines t → Plays board lines u → t ≡ u
plays_once board [] t u p q = p ∙ sym q
plays_once board (line ∷ lines) t u p q =
    let here : p.0 ≡ q.0 = line_once board line p.0 q.0 p.2 q.2 in
    let rest : p.1 ≡ q.1 = plays_once p.0.board lines p.1 q.1 p.3 (subst (λ (h : Turned). Plays h.board lines q.1) (sym here) q.3) in
    p.4 ∙ ap (λ (h : Turned). record { board = p.1.board; text = h.text ++ p.1.text }) here ∙ ap (λ (r : Turned). record { board = r.board; text = q.0.text ++ r.text }) rest ∙ sym q.4

-- what all lines print begins with what the first of them print
first_lines : (board : Board) (done more : List Line) (t u : Turned) → Plays board done t → Plays board (done ++ more) u → (rest : List ℕ) × (u.text ≡ t.text ++ rest)
first_lines board [] more t u p q = (u.text, ap (λ (x : Turned). x.text ++ u.text) (sym p))
first_lines board (line ∷ done) more t u p q =
    let here : p.0 ≡ q.0 = line_once board line p.0 q.0 p.2 q.2 in
    let on = first_lines p.0.board done more p.1 q.1 p.3 (subst (λ (h : Turned). Plays h.board (done ++ more) q.1) (sym here) q.3) in (
      on.0,
      ap (λ (x : Turned). x.text) q.4 ∙ ap (λ (xs : List ℕ). q.0.text ++ xs) on.1 ∙ ap (λ (h : Turned). h.text ++ (p.1.text ++ on.0)) (sym here) ∙ sym (append_assoc p.0.text p.1.text on.0)
          ∙ ap (λ (x : Turned). x.text ++ on.0) (sym p.4),
    )

pub play_is_one : (config : Configuration) (lines : List Line) (x y : Account) (s t : List ℕ) → IsPlay config lines x s → IsPlay config lines y t → (x ≡ y) × (s ≡ t)
play_is_one config lines x y s t p q =
    let last : p.last ≡ q.last = plays_once (opening config) lines p.last q.last p.played q.played in
    let account : x ≡ y = p.accounted ∙ ap (λ (l : Turned). account_of l.board) last ∙ sym q.accounted in
    (account, p.printed ∙ ap (λ (l : Turned). l.text ++ summary_of x) last ∙ ap (λ (a : Account). q.last.text ++ summary_of a) account ∙ sym q.printed)

front_of_more : (n : ℕ) (xs ys : List ℕ) → (k : ℕ) × (take n xs ≡ take k (xs ++ ys))
front_of_more zero xs ys = (0, refl)
front_of_more (suc n) [] ys = (0, refl)
front_of_more (suc n) (x ∷ xs) ys = let k = front_of_more n xs ys in (suc k.0, ap (λ (zs : List ℕ). x ∷ zs) k.1)

-- a front of what the first lines print is one of the text of the play
pub front_of_play : (config : Configuration) (lines done more : List Line) (last : Turned) (n : ℕ) (account : Account) (text : List ℕ) → lines ≡ done ++ more → Plays (opening config) done last → IsPlay config lines account text
    → (k : ℕ) × (take n last.text ≡ take k text)
front_of_play config lines done more last n account text parts played p =
    let on = first_lines (opening config) done more last p.last played (subst (λ (ls : List Line). Plays (opening config) ls p.last) parts p.played) in
    let k = front_of_more n last.text (on.0 ++ summary_of account) in
    (k.0, k.1 ∙ ap (take k.0) (sym (p.printed ∙ ap (λ (xs : List ℕ). xs ++ summary_of account) on.1 ∙ append_assoc last.text on.0 (summary_of account))))
