use Rattle.std.proofs.Common.{◌≡◌, ◌++◌, [], ◌∷◌, ◌∙◌, cond, append_assoc, rules}
use Rattle.std.specs.Prelude.{nat_lt}
use Rattle.std.specs.Fmt.{decimal}
use Rattle.trace_file.proofs.Written.{four_parts, least_line}
use Rattle.trace_file.proofs.line_text.put_counts.Goals as goal

pub returns-clause-ok : goal.returns-clause-ok
returns-clause-ok c =
    let first : c.put_number.new.out ≡ c.args.out.now ++ decimal c.args.partitions = search rules in
    let third : c.put_number-2.new.out ≡ c.push.new.self ++ decimal c.args.followers = search rules in
    let last = cond (nat_lt 1 c.args.least) (32 ∷ decimal c.args.least) [] in
    let fourth : c.put_least.new.out ≡ c.put_number-2.new.out ++ (last ++ 10 ∷ []) = c.in_ok-put_least.ensures.ok ∙ append_assoc c.put_number-2.new.out last (10 ∷ []) in
    rw (least_line (decimal c.args.followers) c.args.least)
    (four_parts c.args.out.now (decimal c.args.partitions) (32 ∷ []) (decimal c.args.followers) (last ++ 10 ∷ []) c.put_number.new.out c.push.new.self c.put_number-2.new.out c.put_least.new.out
    first c.in_ok-push.ensures.ok third fourth)
