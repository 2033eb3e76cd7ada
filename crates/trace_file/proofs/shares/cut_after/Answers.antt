use Rattle.std.proofs.Common.{ℕ, List, ◌+◌, ◌-◌, ◌++◌, length, get_or, take, drop, sym, ap, ◌∙◌}
use Rattle.std.proofs.lemmas.Bool.{eqb-true}
use Rattle.trace_file.specs.Trace.{pieces_of}
use Rattle.trace_file.proofs.Sharing.{pieces_cut_from}
use Rattle.trace_file.proofs.shares.cut_after.Goals as goal

pub returns-in-Some-clause-pieces : goal.returns-in-Some-clause-pieces
returns-in-Some-clause-pieces c =
    let text = c.args.text.now in
    let place = c.args.place in
    let at = c.in-Some.at in
    let found = c.in-Some.ensures in
    pieces_cut_from text place at found.0.high (eqb-true (get_or (take (length text - place) (drop place text)) at 0) 10 found.1)
    ∙ ap (λ (t : List ℕ). pieces_of t ++ pieces_of (drop (place + at + 1) text)) (sym c.split_at.ensures.front)
    ∙ ap (λ (t : List ℕ). pieces_of c.split_at.result.0.now ++ pieces_of t) (sym c.split_at.ensures.back)
