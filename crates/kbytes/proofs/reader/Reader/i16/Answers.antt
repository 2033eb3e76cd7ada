use Rattle.std.proofs.Common.{◌≡◌, rules}
use Rattle.std.specs.Int.{w16, from_be_bytes, cast_signed, cast_unsigned}
use Rattle.kbytes.specs.Field.{Int16}
use Rattle.kbytes.proofs.Places.{Spells-from_front}
use Rattle.kbytes.proofs.Integers.{wide_16, integer_stands}
use Rattle.kbytes.proofs.reader.Reader.i16.Goals as goal

pub returns-clause-read : goal.returns-clause-read
returns-clause-read c =
    let z = cast_signed w16 (cast_unsigned w16 c.from_be_bytes.result) in
    let is : z ≡ cast_signed w16 (from_be_bytes w16 c.in_ok-part.part.now) = search rules in
    let text = integer_stands w16 wide_16 c.args.self.now c.in_ok-part.part.now z c.in_ok-part.ensures.enough c.in_ok-part.ensures.part c.in_ok-part.ensures.bytes is in
    Spells-from_front c.args.self.now c.next.new.self (Int16 z) _ c.in_ok-part.ensures.enough text c.in_ok-part.ensures.moved
