use Rattle.std.proofs.Common.{◌∙◌}
use Rattle.purgatory.proofs.Goes.{pays_far}
use Rattle.purgatory.proofs.room.Room.settle_gauge.Goals as goal

pub returns-then-relieve-clause-pays : goal.returns-then-relieve-clause-pays
returns-then-relieve-clause-pays g c = pays_far c.args.gauge c.args.owner.now c.loop.owner c.relieve.new.self c.loop.invariant.pays c.relieve.ensures.pays

pub loop-preserved : goal.loop-preserved
loop-preserved g c = record {
  pays = pays_far c.args.gauge c.args.owner.now c.loop.owner c.relieve.new.self c.loop.invariant.pays c.relieve.ensures.pays;
  keys = c.scan.ensures ∙ c.loop.invariant.keys;
}
