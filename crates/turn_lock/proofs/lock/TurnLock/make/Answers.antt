use Rattle.std.proofs.Common.{rules, arith, ◌≡◌, [], ◌∷◌}
use Rattle.std.proofs.lemmas.Grind.{common_steps}
use Rattle.std.specs.Prelude.{Some}
use Rattle.turn_lock.proofs.Ends.{starts_for}
use Rattle.turn_lock.proofs.lock.TurnLock.make.Goals as goal

pub new-requires : goal.new-requires
new-requires g c =
    let one : c.push.new.self.items ≡ Some c.args.value ∷ [] = grind (arith, common_steps) in
    starts_for g.T.Kept.entries g.T.Kept.by g.T.Kept.name c.args.value c.of.result.value c.push.new.self.items c.args.passes (search rules) c.requires.empty c.of.ensures one
