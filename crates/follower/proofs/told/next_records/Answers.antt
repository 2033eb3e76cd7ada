use Rattle.std.proofs.Common.{Some}
use Rattle.std.specs.Int.{w32}
use Rattle.std.specs.Option.{option_copied}
use Rattle.kbytes.specs.Reading.{sized_at}
use Rattle.kbytes.proofs.Laws.{records_reads}
use Rattle.follower.proofs.Fronts.{must_read, records_short}
use Rattle.follower.proofs.told.next_records.Goals as goal

pub returns-in_default-clause-none : goal.returns-in_default-clause-none
returns-in_default-clause-none c = λ records short after stands.
    let reader = c.args.reader.now in
    let there = records_reads (Some records) reader after short stands in
    let must = must_read option_copied reader c.records.new.self _ c.records.result (sized_at w32 reader) (Some records) c.records.ensures.exact there in
    absurd (cc (c.in_default.is, must.1))

pub returns-clause-short : goal.returns-clause-short
returns-clause-short c = records_short c.args.reader.now c.records.new.self c.in-Some.records.now (rw c.in-Some.is at c.in-Ok.ensures.exact)
