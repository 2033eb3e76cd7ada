use Rattle.std.proofs.Common.{◌≡◌, ◌≢◌, ◌∙◌, ◌∷◌, [], List, ℕ, ap, arith, rules, subst, sym}
use Rattle.std.specs.Prelude.{codes}
use Rattle.trace_file.specs.declared.line.LineKind.TheVariants as kinds
use Rattle.trace_file.specs.IsLine.{words_of}
use Rattle.trace_file.specs.LineFaults.{IsWordsFault}
use Rattle.trace_file.proofs.Faults.{session_fault}
use Rattle.trace_file.proofs.FewBytes.{decoded_some}
use Rattle.trace_file.proofs.ReadBack.{decoded_word}
use Rattle.trace_file.proofs.read_line.feed.Goals as goal

pub returns-in_default-clause-fault : goal.returns-in_default-clause-fault
returns-in_default-clause-fault c = c.in_default.ensures.none 0

pub returns-in_default-small-clause-fault : goal.returns-in_default-small-clause-fault
returns-in_default-small-clause-fault c =
    let first = c.in-Some.session.now in
    let digits = c.in-Some.digits.now in
    let some : digits ≢ [] = search rules in
    let words : words_of c.args.rest.now ≡ first ∷ digits ∷ [] = c.in-Some.ensures.some ∙ ap (λ (ws : List (List ℕ)). first ∷ ws) (decoded_word digits c.in-Ok.bytes c.in-Ok.ensures.bytes) in
    subst (λ (ws : List (List ℕ)). IsWordsFault (codes "bytes" ∷ ws) kinds.Number) (sym words)
    (session_fault first digits c.in-Some.ensures.filled some c.in_default-small.ensures.none)

pub returns-clause-line : goal.returns-clause-line
returns-clause-line c =
    let digits = c.in-Some.digits.now in
    let one = decoded_word digits c.in-Ok.bytes c.in-Ok.ensures.bytes in
    let some : digits ≢ [] = search rules in record {
      hex = digits;
      spelled =
          ap (λ (ws : List (List ℕ)). codes "bytes" ∷ ws) c.in-Some.ensures.some
          ∙ ap (λ (ws : List (List ℕ)). codes "bytes" ∷ c.in-Some.session.now ∷ ws) one
          ∙ ap (λ (w : List ℕ). codes "bytes" ∷ w ∷ digits ∷ []) c.in-Some-small.ensures.some;
      digits = c.in-Ok.ensures.bytes;
      some = decoded_some digits c.in-Ok.bytes c.in-Ok.ensures.bytes some;
      in_range = omega (arith, c.in-Some-small.ensures.in_range);
    }
