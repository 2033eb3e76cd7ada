use Rattle.std.proofs.Common.{◌∙◌, sym, ap, drop, length, List, ℕ}
use Rattle.kbatch.specs.Crc.{crc32c_of}
use Rattle.kbatch.specs.Record.{records_from}
use Rattle.kbatch.specs.Written.{greatest_time, plain_head, written_with}
use Rattle.kbatch.proofs.Decoding.{batch_once}
use Rattle.kbatch.proofs.Places.{rest_stands}
use Rattle.kbatch.proofs.promises.written_is_read.Goals as goal

pub returns-clause-once : goal.returns-clause-once
returns-clause-once c = batch_once

pub returns-clause-again : goal.returns-clause-again
returns-clause-again c = λ bytes records is.
    let text = records_from 0 records in
    rest_stands (plain_head (crc32c_of (drop 21 (written_with 0 records))) (length text) (length records) (greatest_time records)) text
    ∙ sym (rest_stands is.head text) ∙ sym (ap (λ (xs : List ℕ). drop 61 xs) is.parts)
