use Rattle.std.proofs.Common.{pos, ◌<ℤ◌, sym, arith}
use Rattle.std.proofs.lemmas.Int.{ints}
use Rattle.kwire.proofs.Lookups.{part_negative}
use Rattle.kwire.proofs.config.Config.part_of.Goals as goal

pub returns-then-index-lt0-clause-number : goal.returns-then-index-lt0-clause-number
returns-then-index-lt0-clause-number c =
    let below : c.args.index <ℤ pos 0 = omega (arith, ints, c.if-index-lt0.true) in
    sym (part_negative c.args.self.now.topics c.args.topic.now c.args.index below)
