use Rattle.std.proofs.Common.{◌≡◌, ◌≤◌, ◌++◌, drop}
use Rattle.audit.specs.retelling.WasShown.{look_places}
use Rattle.audit.proofs.retelling.reply.look_places.Given as goal

abbrev pub invariant-loop-became : goal.invariant-loop-became
invariant-loop-became l = record {
  told : l.places ++ look_places (drop l.became-index l.accepted) (drop l.next l.looks) ≡ look_places l.accepted l.looks;
  few : l.next ≤ l.became-index;
}
