use Rattle.std.specs.Int.{w8, w16, w32, w64}
use Rattle.kbytes.proofs.Integers.{wide_8, wide_16, wide_32, wide_64, unsigned_again}
use Rattle.kbytes.proofs.RoundTrips.{integer_reads, string_reads, nullable_string_reads, records_reads, array_reads, varint_reads, varlong_reads}
use Rattle.kbytes.proofs.again.reads_again.Goals as goal

pub returns-clause-int8 : goal.returns-clause-int8
returns-clause-int8 c = integer_reads w8 wide_8

pub returns-clause-int16 : goal.returns-clause-int16
returns-clause-int16 c = integer_reads w16 wide_16

pub returns-clause-int32 : goal.returns-clause-int32
returns-clause-int32 c = integer_reads w32 wide_32

pub returns-clause-uint32 : goal.returns-clause-uint32
returns-clause-uint32 c = λ n d rest fits is. unsigned_again w32 wide_32 d n rest fits is

pub returns-clause-int64 : goal.returns-clause-int64
returns-clause-int64 c = integer_reads w64 wide_64

pub returns-clause-string : goal.returns-clause-string
returns-clause-string c = string_reads

pub returns-clause-nullable_string : goal.returns-clause-nullable_string
returns-clause-nullable_string c = nullable_string_reads

pub returns-clause-records : goal.returns-clause-records
returns-clause-records c = records_reads

pub returns-clause-array : goal.returns-clause-array
returns-clause-array c = array_reads

pub returns-clause-varint : goal.returns-clause-varint
returns-clause-varint c = varint_reads

pub returns-clause-varlong : goal.returns-clause-varlong
returns-clause-varlong c = varlong_reads
