use Rattle.std.proofs.Common.{◌^◌, Ok, rules}
use Rattle.std.specs.Int.{w32, w64, cast_signed, cast_unsigned}
use Rattle.kbytes.specs.Field.{Varint}
use Rattle.kbytes.specs.Reading.{varint_at}
use Rattle.kbytes.proofs.Grouped.{varint_kind, varint_read, varint_short, varint_long, varint_place}
use Rattle.kbytes.proofs.reader.Reader.varint.Goals as goal

pub returns-in_err-value-clause-exact : goal.returns-in_err-value-clause-exact
unfolding varint_at
returns-in_err-value-clause-exact c = search rules

pub returns-in_err-value-clause-short : goal.returns-in_err-value-clause-short
unfolding varint_at
returns-in_err-value-clause-short c = varint_short w32 Varint 4 (2 ^ 32) varint_kind c.args.self.now c.grouped.new.self c.from_residual.result c.in_err-value.ensures.bytes (returns-in_err-value-clause-exact c)

pub returns-in_err-value-clause-long : goal.returns-in_err-value-clause-long
unfolding varint_at
returns-in_err-value-clause-long c = varint_long w32 Varint 4 (2 ^ 32) varint_kind c.args.self.now c.grouped.new.self c.from_residual.result c.in_err-value.ensures.bytes (returns-in_err-value-clause-exact c)

pub returns-in_err-value-clause-place : goal.returns-in_err-value-clause-place
unfolding varint_at
returns-in_err-value-clause-place c = varint_place w32 Varint 4 (2 ^ 32) varint_kind c.args.self.now c.grouped.new.self c.from_residual.result c.in_err-value.ensures.bytes (returns-in_err-value-clause-exact c)

pub returns-clause-exact : goal.returns-clause-exact
unfolding varint_at
returns-clause-exact c = search rules

pub returns-clause-read : goal.returns-clause-read
unfolding varint_at
returns-clause-read c = varint_read w32 Varint 4 (2 ^ 32) varint_kind c.args.self.now c.grouped.new.self (Ok (cast_signed w32 (cast_unsigned w32 (cast_signed w64 (cast_unsigned w64 c.in_ok-value.value))))) c.in_ok-value.ensures.bytes (returns-clause-exact c)

pub returns-clause-short : goal.returns-clause-short
unfolding varint_at
returns-clause-short c = varint_short w32 Varint 4 (2 ^ 32) varint_kind c.args.self.now c.grouped.new.self (Ok (cast_signed w32 (cast_unsigned w32 (cast_signed w64 (cast_unsigned w64 c.in_ok-value.value))))) c.in_ok-value.ensures.bytes (returns-clause-exact c)

pub returns-clause-long : goal.returns-clause-long
unfolding varint_at
returns-clause-long c = varint_long w32 Varint 4 (2 ^ 32) varint_kind c.args.self.now c.grouped.new.self (Ok (cast_signed w32 (cast_unsigned w32 (cast_signed w64 (cast_unsigned w64 c.in_ok-value.value))))) c.in_ok-value.ensures.bytes (returns-clause-exact c)

pub returns-clause-place : goal.returns-clause-place
unfolding varint_at
returns-clause-place c = varint_place w32 Varint 4 (2 ^ 32) varint_kind c.args.self.now c.grouped.new.self (Ok (cast_signed w32 (cast_unsigned w32 (cast_signed w64 (cast_unsigned w64 c.in_ok-value.value))))) c.in_ok-value.ensures.bytes (returns-clause-exact c)
