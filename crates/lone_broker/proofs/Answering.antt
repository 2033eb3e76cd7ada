-- A request that waits is answered: its reply is printed, and it is completed.
use Rattle.std.proofs.Common.{◌≡◌, ℕ, List, [], ◌∷◌, ◌++◌, Some, refl, sym, ap, subst, ◌∙◌}
use Rattle.std.specs.Prelude.{codes}
use Rattle.std.specs.Fmt.{decimal}
use Rattle.hex.specs.Hex.{encode_lower}
use Rattle.kwire.specs.Spelling.{spelling}
use Rattle.kanswer.specs.Answer.{answer}
use Rattle.audit.specs.declared.account.CallHow.{CallHow}
use Rattle.trace_file.specs.PrintedLine.{line_of, reply_line}
use Rattle.audit.specs.broker.Board.{Board, Waiting}
use Rattle.audit.specs.broker.Completing.{answered_in, shown_now}
use Rattle.audit.specs.broker.Turns.{Turned}
use Rattle.lone_broker.specs.Kept.{Kept, StandsFor, TurnsBy, waiting_in}
use Rattle.lone_broker.specs.Looks.{due_in, finished}
use Rattle.lone_broker.proofs.Completes.{something_due}

pub answers : (kept after : Kept) (session : ℕ) (how : CallHow) (reply shown text more : List ℕ)
    → ((board : Board) → StandsFor kept board → Some how ≡ due_in board (waiting_in board.waiting session))
    → ((board : Board) (w : Waiting) → StandsFor kept board → waiting_in board.waiting session ≡ Some w → reply ≡ spelling (answer board.config w.request (shown_now board w.steps)))
    → shown ≡ reply → more ≡ text ++ line_of (codes "reply" ∷ decimal session ∷ encode_lower shown ∷ [])
    → ((board : Board) (w : Waiting) → StandsFor kept board → waiting_in board.waiting session ≡ Some w → StandsFor after (finished board w how))
    → TurnsBy (λ board t. t ≡ answered_in board session) kept after text more
answers kept after session how reply shown text more due replied same put finishes board stands =
    let d = something_due board session how (sym (due board stands)) in
    let w = d.waiting in
    let line : List ℕ → List ℕ = λ frame. line_of (codes "reply" ∷ decimal session ∷ encode_lower frame ∷ []) in
    let told : line shown ≡ reply_line session (answer board.config w.request (shown_now board w.steps)) = ap line (same ∙ replied board w stands d.found) in (
      answered_in board session,
      refl,
      subst (λ (t : Turned). StandsFor after t.board) (sym d.answered) (finishes board w stands d.found),
      put ∙ ap (λ (xs : List ℕ). text ++ xs) (told ∙ sym (ap (λ (t : Turned). t.text) d.answered)),
    )
