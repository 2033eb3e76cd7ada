use Rattle.std.proofs.Common.{◌≡◌, ◌++◌, take, drop, pos, length, ap, ◌∙◌, rules, arith}
use Rattle.std.specs.Prelude.{FitsSigned}
use Rattle.std.specs.Int.{w64}
use Rattle.std.proofs.lemmas.Int.{to_z-of_z}
use Rattle.kbatch.specs.Head.{head_bytes}
use Rattle.kbatch.specs.Record.{records_from}
use Rattle.kbatch.specs.Written.{plain_head}
use Rattle.kbatch.proofs.Lengths.{records_len}
use Rattle.kbatch.proofs.Puts.{head_put}
use Rattle.kbatch.proofs.write.unsigned.Goals as goal

pub overflow_cast-records : goal.overflow_cast-records
overflow_cast-records c = record { fits = omega (arith, records_len 0 c.args.records.now, c.requires.most) }

pub put_back-requires-clause-fits : goal.put_back-requires-clause-fits
put_back-requires-clause-fits c = omega (arith, records_len 0 c.args.records.now, c.requires.most)

pub returns : goal.returns
returns c =
    let rs = c.args.records.now in
    let rest = records_from 0 rs in
    let size : c.records_size-size.result ≡ length rest = omega (arith, c.records_size-size.ensures.size, c.requires.most) in
    let front = c.in_ok-put_front.ensures ∙ ap (λ out. out ++ take 21 (head_bytes (plain_head 0 c.records_size-size.result 0 (pos 0)))) (c.reserve.ensures ∙ c.new-bytes.ensures) in
    let latest : FitsSigned w64 c.greatest_time.result = search rules in
    let back = c.in_ok-put_back.ensures ∙ ap (λ t. c.put_front.new.out ++ drop 21 (head_bytes (plain_head 0 0 (length rs) t))) (to_z-of_z w64 c.greatest_time.result latest) ∙ ap (λ out. out ++ drop 21 (head_bytes (plain_head 0 0 (length rs) c.greatest_time.result))) front in
    c.in_ok-put_all.ensures ∙ ap (λ out. out ++ rest) back
    ∙ head_put c.records_size-size.result (length rs) c.greatest_time.result rest
    ∙ ap (λ n. head_bytes (plain_head 0 n (length rs) c.greatest_time.result) ++ rest) size
    ∙ ap (λ t. head_bytes (plain_head 0 (length rest) (length rs) t) ++ rest) c.greatest_time.ensures
