use Rattle.std.proofs.Common.{◌<◌, ◌^◌, ◌++◌, length, sym, ap, subst, ◌∙◌, arith}
use Rattle.kbatch.specs.declared.record.Record.{Record}
use Rattle.kbatch.specs.Record.{record_bytes}
use Rattle.kbatch.proofs.Lengths.{records_len}
use Rattle.kbatch.proofs.Puts.{record_short, records_put}
use Rattle.kbatch.proofs.write.put_all.Goals as goal

pub overflow_cast-delta : goal.overflow_cast-delta
overflow_cast-delta c = record { fits = omega (arith, records_len 0 c.args.records.now, c.loop-delta-test.true, c.requires) }

pub put_record-requires-clause-delta : goal.put_record-requires-clause-delta
put_record-requires-clause-delta c = omega (arith, records_len 0 c.args.records.now, c.loop-delta-test.true, c.requires)

pub put_record-requires-clause-size : goal.put_record-requires-clause-size
put_record-requires-clause-size c =
    subst (λ (r : Record). length (record_bytes c.loop-delta.delta r) < 2 ^ 31) (sym c.index-records-delta.is) (record_short c.args.records.now c.loop-delta.delta c.index-records-delta.result c.loop-delta-test.true c.requires)

pub loop-delta-preserved : goal.loop-delta-preserved
loop-delta-preserved c =
    let r = c.index-records-delta.result in
    records_put c.args.out.now c.loop-delta.out c.put_record.new.out c.args.records.now c.loop-delta.delta r c.loop-delta-test.true c.loop-delta.invariant (c.in_ok-put_record.ensures ∙ ap (λ (x : Record). c.loop-delta.out ++ record_bytes c.loop-delta.delta x) c.index-records-delta.is)
