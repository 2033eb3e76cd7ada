use Rattle.std.proofs.Common.{ℕ, List, [], ◌∷◌, ◌++◌, ap, ◌∙◌}
use Rattle.audit.specs.broker.Board.{Seat, passes_of}
use Rattle.audit.specs.Histories.{calls_in}
use Rattle.audit.specs.IsLawful.{is_won_by}
use Rattle.std.specs.Prelude.{count_by}
use Rattle.std.specs.List.{flat_map}
use Rattle.lone_broker.proofs.closing.take_books.Goals as goal

pub returns-clause-wins : goal.returns-clause-wins
returns-clause-wins c =
    c.in_ok-push.ensures.ok
    ∙ ap (λ (wins : List ℕ). wins ++ c.won.result ∷ []) c.new-wins.ensures
    ∙ ap (λ (n : ℕ). n ∷ []) (c.won.ensures ∙ ap (λ (seats : List Seat). count_by (is_won_by 0) (flat_map calls_in (passes_of seats))) c.as_slice.ensures)
