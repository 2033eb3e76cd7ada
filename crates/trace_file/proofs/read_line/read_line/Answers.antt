use Rattle.std.proofs.Common.{◌≡◌, ◌∷◌, List, ℕ, eqb, ap, subst, sym, ◌∙◌, arith, rules}
use Rattle.std.specs.Prelude.{codes}
use Rattle.trace_file.specs.declared.line.LineKind.TheVariants.{Form}
use Rattle.trace_file.specs.IsLine.{words_of}
use Rattle.trace_file.specs.LineFaults.{IsWordsFault}
use Rattle.trace_file.proofs.Cuts.{some_parts}
use Rattle.trace_file.proofs.read_line.read_line.Goals as goal

pub returns-then-eq-5-clause-fault : goal.returns-then-eq-5-clause-fault
returns-then-eq-5-clause-fault c =
    let rest = words_of c.in-Some.rest.now in
    let kind : c.in-Some.kind.now ≡ codes "end" = search rules in
    let words = c.in-Some.ensures.front ∙ ap (λ (k : List ℕ). k ∷ rest) kind in
    subst (λ (ws : List (List ℕ)). IsWordsFault ws Form) (sym words)
    (λ h. absurd (omega (arith, h.count_is, some_parts (λ x. eqb x 32) c.in-Some.rest.now)))
