use Rattle.std.proofs.Common.{◌≡◌, ◌≢◌, ℕ, List, ◌∷◌, ◌+◌, ◌-◌, ◌<◌, length, get_or, take, drop, eqb, eq-eqb, sym, ap, ◌∙◌, arith, length-drop}
use Rattle.std.proofs.lemmas.Bool.{eqb-true}
use Rattle.std.proofs.lemmas.List.{take_all}
use Rattle.std.specs.List.{slice_split}
use Rattle.trace_file.proofs.Cuts.{cut_found, cut_nowhere}
use Rattle.trace_file.proofs.pieces.cut.Goals as goal

pub returns-in-Some-clause-front : goal.returns-in-Some-clause-front
returns-in-Some-clause-front c =
    let text = c.args.text.now in
    let byte = c.args.byte in
    let at = c.in-Some.at in
    let found = c.in-Some.ensures in
    let rest : take (length text - (at + 1)) (drop (at + 1) text) ≡ drop (at + 1) text = take_all (length text - (at + 1)) (drop (at + 1) text) (omega (arith, length-drop (at + 1) text)) in
    let none : (k : ℕ) → k < at → get_or text k 0 ≢ byte = λ k lt is. found.0.before k (omega arith) lt (eq-eqb (get_or text k 0) byte is) in
    cut_found text byte at found.0.high none (eqb-true (get_or text at 0) byte found.1)
    ∙ ap (λ (xs : List ℕ). take at text ∷ slice_split (λ x. eqb x byte) xs) (sym rest)

pub returns-in-None-clause-whole : goal.returns-in-None-clause-whole
returns-in-None-clause-whole c =
    cut_nowhere c.args.text.now c.args.byte (λ k lt is. c.in-None.ensures k (omega arith) lt (eq-eqb (get_or c.args.text.now k 0) c.args.byte is))
