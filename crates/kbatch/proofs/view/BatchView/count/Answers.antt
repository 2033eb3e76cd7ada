use Rattle.std.proofs.Common.{◌≡◌, length, ap, ◌∙◌, arith}
use Rattle.kbatch.specs.Kept.{count_of}
use Rattle.kbatch.proofs.Batches.{batch_len, batch_count}
use Rattle.kbatch.proofs.view.BatchView.count.Goals as goal

pub count_in-requires : goal.count_in-requires
count_in-requires c =
    let inv = c.self.invariant in
    omega (arith, batch_len c.self.inside.bytes.now inv.0 inv.1)

pub returns-clause-records : goal.returns-clause-records
returns-clause-records c records is =
    c.count_in.ensures ∙ ap count_of c.self.view_is ∙ batch_count c.args.self.now records is

pub returns-clause-some_record : goal.returns-clause-some_record
returns-clause-some_record c =
    let inv = c.self.invariant in
    let count : c.count_in.result ≡ length inv.0 = c.count_in.ensures ∙ batch_count c.self.inside.bytes.now inv.0 inv.1 in
    omega (arith, inv.1.some_record, count)

pub returns-clause-below : goal.returns-clause-below
returns-clause-below c =
    let inv = c.self.invariant in
    let count : c.count_in.result ≡ length inv.0 = c.count_in.ensures ∙ batch_count c.self.inside.bytes.now inv.0 inv.1 in
    omega (arith, count, batch_len c.self.inside.bytes.now inv.0 inv.1, ap length c.self.view_is)
