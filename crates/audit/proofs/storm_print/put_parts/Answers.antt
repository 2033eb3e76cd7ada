use Rattle.std.proofs.Common.{◌++◌, List, ℕ, take, sym, ap, ◌∙◌, append_assoc}
use Rattle.std.specs.List.{flat_map}
use Rattle.audit.specs.Printed.{short_part_line, numbered}
use Rattle.audit.proofs.Tallies.{parts_more}
use Rattle.audit.proofs.storm_print.put_parts.Goals as goal

pub loop-number-preserved : goal.loop-number-preserved
loop-number-preserved c =
    let parts = c.args.parts.now in
    let n = c.loop-number.number in
    let part = c.index-parts-number.result in
    let old = c.args.out.now in
    let front = flat_map short_part_line (numbered 0 (take n parts)) in
    c.in_ok-put_part.ensures
    ∙ ap (λ (text : List ℕ). text ++ short_part_line (n, part)) c.loop-number.invariant
    ∙ append_assoc old front (short_part_line (n, part))
    ∙ ap (λ (text : List ℕ). old ++ text) (sym (parts_more short_part_line parts n part c.loop-number-test.true c.index-parts-number.is))
