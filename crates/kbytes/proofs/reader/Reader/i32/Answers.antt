use Rattle.std.proofs.Common.{◌≡◌, rules}
use Rattle.std.specs.Int.{w32, from_be_bytes, cast_signed, cast_unsigned}
use Rattle.kbytes.specs.Field.{Int32}
use Rattle.kbytes.proofs.Places.{Spells-from_front}
use Rattle.kbytes.proofs.Integers.{wide_32, integer_stands}
use Rattle.kbytes.proofs.reader.Reader.i32.Goals as goal

pub returns-clause-read : goal.returns-clause-read
returns-clause-read c =
    let z = cast_signed w32 (cast_unsigned w32 c.from_be_bytes.result) in
    let is : z ≡ cast_signed w32 (from_be_bytes w32 c.in_ok-part.part.now) = search rules in
    let text = integer_stands w32 wide_32 c.args.self.now c.in_ok-part.part.now z c.in_ok-part.ensures.enough c.in_ok-part.ensures.part c.in_ok-part.ensures.bytes is in
    Spells-from_front c.args.self.now c.next.new.self (Int32 z) _ c.in_ok-part.ensures.enough text c.in_ok-part.ensures.moved
