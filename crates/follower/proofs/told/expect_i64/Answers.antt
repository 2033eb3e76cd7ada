use Rattle.std.proofs.Common.{ap}
use Rattle.std.specs.Int.{w64, cast_unsigned}
use Rattle.kbytes.specs.Reading.{integer_at}
use Rattle.kbytes.proofs.Laws.{integer_reads, wide_64}
use Rattle.follower.proofs.Fronts.{read_same}
use Rattle.follower.proofs.told.expect_i64.Goals as goal

pub returns-in_default-clause-none : goal.returns-in_default-clause-none
returns-in_default-clause-none c = λ after stands.
    let reader = c.args.reader.now in
    let there = integer_reads w64 wide_64 c.args.value reader after c.ranges.value stands in
    c.if-found-value.false (ap (cast_unsigned w64) (read_same (integer_at w64 reader) c.in-Ok.found c.args.value _ _ c.in-Ok.ensures.exact there))
