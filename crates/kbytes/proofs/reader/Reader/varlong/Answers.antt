use Rattle.std.proofs.Common.{◌^◌, rules}
use Rattle.std.specs.Int.{w64}
use Rattle.kbytes.specs.Field.{Varlong}
use Rattle.kbytes.specs.Reading.{varlong_at}
use Rattle.kbytes.proofs.Grouped.{varlong_kind, varint_read, varint_short, varint_long, varint_place}
use Rattle.kbytes.proofs.reader.Reader.varlong.Goals as goal

pub returns-clause-exact : goal.returns-clause-exact
unfolding varlong_at
returns-clause-exact c = search rules

pub returns-clause-read : goal.returns-clause-read
unfolding varlong_at
returns-clause-read c = varint_read w64 Varlong 9 (2 ^ 64) varlong_kind c.args.self.now c.grouped.new.self c.grouped.result c.grouped.ensures.bytes (returns-clause-exact c)

pub returns-clause-short : goal.returns-clause-short
unfolding varlong_at
returns-clause-short c = varint_short w64 Varlong 9 (2 ^ 64) varlong_kind c.args.self.now c.grouped.new.self c.grouped.result c.grouped.ensures.bytes (returns-clause-exact c)

pub returns-clause-long : goal.returns-clause-long
unfolding varlong_at
returns-clause-long c = varint_long w64 Varlong 9 (2 ^ 64) varlong_kind c.args.self.now c.grouped.new.self c.grouped.result c.grouped.ensures.bytes (returns-clause-exact c)

pub returns-clause-place : goal.returns-clause-place
unfolding varlong_at
returns-clause-place c = varint_place w64 Varlong 9 (2 ^ 64) varlong_kind c.args.self.now c.grouped.new.self c.grouped.result c.grouped.ensures.bytes (returns-clause-exact c)
