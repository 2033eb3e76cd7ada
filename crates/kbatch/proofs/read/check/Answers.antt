use Rattle.std.proofs.lemmas.Result.{on_ok_weaker}
use Rattle.kbatch.proofs.Faults.{batch_from}
use Rattle.kbatch.proofs.read.check.Goals as goal

pub returns-clause-batch : goal.returns-clause-batch
returns-clause-batch c =
    let size = c.in_ok-check_size.ensures in
    let attributes = c.in_ok-check_attributes.ensures in
    let count = c.in_ok-count.ensures in
    on_ok_weaker c.check_records.result
    (λ d. (
      d.0,
      batch_from c.args.bytes.now c.in_ok-count.count d.0 (λ i. let b = c.type_inv.bytes i in b.fits) size.least size.most c.in_ok-check_length.ensures.stands c.in_ok-check_magic.ensures.stands c.in_ok-check_crc.ensures.stands
          attributes.plain attributes.no_transaction attributes.no_control count.count count.some_record count.last d.1 d.2 d.3,
    ))
    c.check_records.ensures.stands
