use Rattle.std.proofs.Common.{◌≡◌, ℕ, List, [], ◌++◌, sym, ap, ◌∙◌, rules, append_assoc, append-nil}
use Rattle.std.proofs.lemmas.List.{nil_from_length}
use Rattle.hex.specs.Hex.{encode_with, encode_lower, lower_digits}
use Rattle.trace_file.proofs.HexParts.{encode_with-append}
use Rattle.trace_file.proofs.reply_line.put_hex.Goals as goal

pub loop-part-init : goal.loop-part-init
unfolding encode_with
loop-part-init c = (search rules, tt, search rules, [], sym (append-nil c.args.out.now), search rules)

pub loop-part-preserved : goal.loop-part-preserved
loop-part-preserved c =
    let part = c.in-Some.part.now in
    let steps = c.in-Some.ensures.steps in
    let done = c.loop-part.invariant.3 in (
      search rules,
      tt,
      steps.0 ∙ c.loop-part.invariant.2,
      done ++ part,
      c.in_ok-put_part.ensures.ok
          ∙ ap (λ (front : List ℕ). front ++ encode_lower part) c.loop-part.invariant.4
          ∙ append_assoc c.args.out.now (encode_lower done) (encode_lower part)
          ∙ ap (λ (digits : List ℕ). c.args.out.now ++ digits) (sym (encode_with-append lower_digits done part)),
      append_assoc done part _ ∙ ap (λ (rest : List ℕ). done ++ rest) (sym steps.1.0) ∙ c.loop-part.invariant.5,
    )

pub returns-clause-ok : goal.returns-clause-ok
returns-clause-ok c =
    let none = nil_from_length _ c.in-None.ensures.steps.1.0 in
    let all : c.loop-part.invariant.3 ≡ c.args.bytes.now = rw (none, append-nil) at c.loop-part.invariant.5 in
    rw all at c.loop-part.invariant.4
