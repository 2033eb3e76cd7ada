use Rattle.std.proofs.Common.{rules}
use Rattle.kbytes.specs.declared.fault.ByteFault.TheVariants.{Short, BadLength}
use Rattle.kbytes.specs.Field.{String}
use Rattle.kbytes.specs.Reading.{Spells, string_at, sized_at}
use Rattle.kbytes.proofs.Sized.{reads, refuses, both, string_spells, string_short, string_bad}
use Rattle.kbytes.proofs.reader.Reader.string.Goals as goal

pub returns-clause-exact : goal.returns-clause-exact
unfolding string_at sized_at
returns-clause-exact c = search rules

pub returns-clause-read : goal.returns-clause-read
returns-clause-read c =
    let old = c.args.self.now in
    let new = c.counted.new.self in
    let bytes = c.ahead-ahead.ensures.bytes in
    reads (λ v. v.now) old new c.counted.result (string_at old) (λ part. Spells old new (String part)) (returns-clause-exact c) (λ part is. string_spells old new part bytes is)

pub returns-clause-short : goal.returns-clause-short
returns-clause-short c =
    let old = c.args.self.now in
    let new = c.counted.new.self in
    both (refuses (λ v. v.now) old new c.counted.result (string_at old) (Short old.at) (returns-clause-exact c)) (string_short old c.ahead-ahead.ensures.bytes)

pub returns-clause-bad_length : goal.returns-clause-bad_length
returns-clause-bad_length c =
    let old = c.args.self.now in
    let new = c.counted.new.self in
    λ n. both (refuses (λ v. v.now) old new c.counted.result (string_at old) (BadLength old.at n) (returns-clause-exact c)) (string_bad old c.ahead-ahead.ensures.bytes n)
