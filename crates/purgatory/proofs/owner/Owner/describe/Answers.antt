use Rattle.std.proofs.Common.{◌∙◌}
use Rattle.purgatory.proofs.Describing.{written_now}
use Rattle.purgatory.proofs.owner.Owner.describe.Goals as goal

pub returns : goal.returns
returns c = written_now c.args.self.now c.recall.new.caller c.describe.new.caller c.args.at c.args.word (c.recall.ensures.still ∙ c.self.view_is) c.describe.ensures
