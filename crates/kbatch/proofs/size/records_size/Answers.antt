use Rattle.std.proofs.Common.{length, take, get_or, ap, sym, subst, arith}
use Rattle.std.proofs.lemmas.List.{length-append, take_more}
use Rattle.kbatch.specs.Record.{IsRecord, record_bytes, records_from}
use Rattle.std.specs.List.{AllByRecursion}
use Rattle.kbatch.proofs.Records.{each_more}
use Rattle.kbatch.proofs.Sizes.{records_at_more}
use Rattle.kbatch.proofs.size.records_size.Goals as goal

pub loop-delta-preserved : goal.loop-delta-preserved
loop-delta-preserved c =
    let rs = c.args.records.now in
    let i = c.loop-delta.delta in
    let r = c.index-records-delta.result in
    let more = ap length (records_at_more rs i r c.loop-delta-test.true) in
    let parts = length-append (records_from 0 (take i rs)) (record_bytes i (get_or rs i r)) in
    let here = ap (λ x. length (record_bytes i x)) c.index-records-delta.is in
    let is : IsRecord (get_or rs i r) = subst IsRecord c.index-records-delta.is c.record_size.ensures.record in
    record {
      each = subst (AllByRecursion IsRecord) (sym (take_more rs i r c.loop-delta-test.true)) (each_more (take i rs) (get_or rs i r) c.loop-delta.invariant.each is);
      size = omega (arith, more, parts, here, c.record_size.ensures.size, c.saturating_add-size.ensures, c.loop-delta.invariant.size);
    }
