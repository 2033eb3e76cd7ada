-- What the broker keeps has as much left to do after a scan, and less after an act, by the measure of the definition's board.
use Rattle.std.proofs.Common.{◌≡◌, ℕ, ◌<◌, List, Some, length, sym, ap, ◌∙◌, arith}
use Rattle.audit.specs.broker.Acting.{next_to_act, Acts}
use Rattle.audit.specs.broker.Board.{Board}
use Rattle.audit.specs.broker.Completing.{scanned}
use Rattle.audit.specs.broker.Turns.{Turned}
use Rattle.audit.proofs.broker.Laws.{acts_less, its_turn, scanned_as_much, work_on}
use Rattle.lone_broker.specs.Kept.{Kept, Stands, StandsFor, TurnsBy}

pub scan_leaves : (kept after : Kept) (text more : List ℕ) → Stands kept → TurnsBy (λ board t. t ≡ scanned board) kept after text more → work_on after.board.seats ≡ work_on kept.board.seats
scan_leaves kept after text more stands turns =
    let t = turns stands.0 stands.1 in
    let before : work_on stands.0.seats ≡ work_on kept.board.seats = ap (λ (b : Board). work_on b.seats) stands.1.same in
    let behind : work_on t.0.board.seats ≡ work_on after.board.seats = ap (λ (b : Board). work_on b.seats) t.2.same in
    sym behind ∙ ap (λ (x : Turned). work_on x.board.seats) t.1 ∙ (scanned_as_much stands.0).work ∙ before

pub act_leaves : (kept after : Kept) (session : ℕ) (text more : List ℕ) → Stands kept → ((board : Board) → StandsFor kept board → next_to_act board ≡ Some session) → TurnsBy (λ board. Acts board session) kept after text more
    → work_on after.board.seats < work_on kept.board.seats
act_leaves kept after session text more stands turn turns =
    let t = turns stands.0 stands.1 in
    let before : work_on stands.0.seats ≡ work_on kept.board.seats = ap (λ (b : Board). work_on b.seats) stands.1.same in
    let behind : work_on t.0.board.seats ≡ work_on after.board.seats = ap (λ (b : Board). work_on b.seats) t.2.same in
    let size : length stands.0.seats ≡ 64 = ap (λ (b : Board). length b.seats) stands.1.same ∙ stands.1.kept_of.seats in
    let less = acts_less stands.0 session t.0 size (its_turn stands.0 session (turn stands.0 stands.1)) t.1 in
    omega (arith, before, behind, less)
