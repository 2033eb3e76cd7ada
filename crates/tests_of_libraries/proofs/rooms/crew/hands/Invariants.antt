use Rattle.std.proofs.Common.{◌≡◌, length}
use Rattle.std.specs.Prelude.{All}
use Rattle.std.specs.Vec.Iter.{into_iter_items, into_iter_len}
use Rattle.tests_of_libraries.specs.Crews.{IsNewPass}
use Rattle.purgatory.specs.Rooms.{IsOfRoom}
use Rattle.tests_of_libraries.proofs.rooms.crew.hands.Given as goal

abbrev pub invariant-loop-pass : goal.invariant-loop-pass
invariant-loop-pass l = record {
  left : All (IsNewPass l.room) (into_iter_items l.pass-iterator);
  len : into_iter_len l.pass-iterator ≡ length (into_iter_items l.pass-iterator);
  made : All (IsOfRoom l.room) l.hands.items;
}
