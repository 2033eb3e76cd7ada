use Rattle.purgatory.proofs.scans.Inspecting.{learned}
use Rattle.purgatory.proofs.scans.inspector.Inspector.learn.Goals as goal

pub invariant_of-self : goal.invariant_of-self
invariant_of-self c =
    let i = c.self.inside in
    learned i.shape i.number i.words.items i.values.items i.wins i.seat c.learn-word.new.scan c.self.invariant c.args.at c.learn-word.result c.requires.at c.learn-word.ensures
