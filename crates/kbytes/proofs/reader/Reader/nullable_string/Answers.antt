use Rattle.std.proofs.Common.{refl, rules}
use Rattle.std.specs.Option.{option_copied}
use Rattle.std.specs.Int.{w16}
use Rattle.kbytes.specs.declared.fault.ByteFault.TheVariants.{Short, BadLength}
use Rattle.kbytes.specs.Field.{NullableString}
use Rattle.kbytes.specs.Reading.{Spells, sized_at}
use Rattle.kbytes.proofs.Integers.{wide_16}
use Rattle.kbytes.proofs.Sized.{reads, refuses, both, sized_spells, sized_short, sized_bad}
use Rattle.kbytes.proofs.reader.Reader.nullable_string.Goals as goal

pub returns-clause-exact : goal.returns-clause-exact
unfolding sized_at
returns-clause-exact c = search rules

pub returns-clause-read : goal.returns-clause-read
returns-clause-read c =
    let old = c.args.self.now in
    let new = c.nullable.new.self in
    let bytes = c.ahead-ahead.ensures.bytes in
    reads option_copied old new c.nullable.result (sized_at w16 old) (λ part. Spells old new (NullableString part)) (returns-clause-exact c) (λ part is. sized_spells w16 wide_16 old new part (NullableString part) refl bytes is)

pub returns-clause-short : goal.returns-clause-short
returns-clause-short c =
    let old = c.args.self.now in
    let new = c.nullable.new.self in
    both (refuses option_copied old new c.nullable.result (sized_at w16 old) (Short old.at) (returns-clause-exact c)) (sized_short w16 wide_16 old c.ahead-ahead.ensures.bytes)

pub returns-clause-bad_length : goal.returns-clause-bad_length
returns-clause-bad_length c =
    let old = c.args.self.now in
    let new = c.nullable.new.self in
    λ n. both (refuses option_copied old new c.nullable.result (sized_at w16 old) (BadLength old.at n) (returns-clause-exact c)) (sized_bad w16 wide_16 old c.ahead-ahead.ensures.bytes n)
