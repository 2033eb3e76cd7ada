use Rattle.std.proofs.Common.{List, ℕ, ◌++◌, subst}
use Rattle.std.proofs.lemmas.Result.{on_ok_weaker}
use Rattle.trace_file.specs.TextRead.{HasRead}
use Rattle.trace_file.proofs.shares.take_shares.Goals as goal

pub returns-clause-taken : goal.returns-clause-taken
returns-clause-taken g c =
    on_ok_weaker c.join.result
    (λ taken only before h.
    subst (λ (ps : List (List ℕ)). HasRead only (before ++ ps) c.join.new.reading) c.in_ok-shares.ensures.pieces (taken only before c.in_ok-shares.shares.items h c.in_ok-reads.ensures))
    c.join.ensures.taken
