use Rattle.std.proofs.Common.{◌≡◌, Some, Ok}
use Rattle.kbytes.specs.Reading.{array_at}
use Rattle.kwire.proofs.FieldLaws.{array_field}
use Rattle.kwire.proofs.read_items.read_count.Goals as goal

pub returns-clause-small : goal.returns-clause-small
returns-clause-small c =
    let old = c.args.reader.now in
    let new = c.array.new.self in
    let read : array_at old ≡ Ok (Some c.in-Some.count, new) = rw c.in-Some.is at c.in_ok-count.ensures.exact in
    array_field.fits (Some c.in-Some.count) old new read
