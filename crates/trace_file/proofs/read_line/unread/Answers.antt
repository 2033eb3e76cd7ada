use Rattle.std.proofs.Common.{◌≡◌, ◌≢◌, ◌∙◌, ◌∷◌, [], List, ℕ, ap, arith, subst, sym}
use Rattle.std.specs.Prelude.{codes}
use Rattle.trace_file.specs.IsLine.{words_of}
use Rattle.trace_file.specs.LineFaults.{AreFilled, IsWordsFault}
use Rattle.trace_file.specs.Refusals.{Tells}
use Rattle.trace_file.proofs.Faults.{hex_fault}
use Rattle.trace_file.proofs.Refused.{Tells-weaker}
use Rattle.trace_file.proofs.read_line.unread.Goals as goal

pub returns-in-Some-small : goal.returns-in-Some-small
returns-in-Some-small c =
    let first = c.args.session.now in
    let digits = c.args.digits.now in
    let small = c.in-Some-small in
    let one : words_of digits ≡ digits ∷ [] = c.in-Some.ensures.some ∙ ap (λ (w : List ℕ). w ∷ []) c.in-Some.ensures.all in
    let some : digits ≢ [] = (subst (λ (ws : List (List ℕ)). AreFilled ws 1) one c.in-Some.ensures.filled).filled 0 [] (omega arith) in
    subst (λ (ws : List (List ℕ)). Tells c.args.why (IsWordsFault (codes "bytes" ∷ first ∷ ws))) (sym one)
    (Tells-weaker c.args.why _ (IsWordsFault (codes "bytes" ∷ first ∷ digits ∷ []))
    (λ kind told. subst (IsWordsFault (codes "bytes" ∷ first ∷ digits ∷ [])) (sym told.0) (hex_fault first digits small.field-0 c.requires.named some small.ensures.in_range small.ensures.some told.1))
    c.requires.why)
