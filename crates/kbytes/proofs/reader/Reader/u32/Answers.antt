use Rattle.std.proofs.Common.{◌≡◌, rules}
use Rattle.std.specs.Int.{w32, from_be_bytes}
use Rattle.kbytes.specs.Field.{Uint32}
use Rattle.kbytes.proofs.Places.{Spells-from_front}
use Rattle.kbytes.proofs.Integers.{wide_32, unsigned_stands}
use Rattle.kbytes.proofs.reader.Reader.u32.Goals as goal

pub returns-clause-read : goal.returns-clause-read
returns-clause-read c =
    let n = c.from_be_bytes.result in
    let is : n ≡ from_be_bytes w32 c.in_ok-part.part.now = search rules in
    let text = unsigned_stands w32 wide_32 c.args.self.now c.in_ok-part.part.now n c.in_ok-part.ensures.enough c.in_ok-part.ensures.part c.in_ok-part.ensures.bytes is in
    Spells-from_front c.args.self.now c.next.new.self (Uint32 n) _ c.in_ok-part.ensures.enough text c.in_ok-part.ensures.moved
