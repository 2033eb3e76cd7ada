use Rattle.std.proofs.Common.{◌≡◌, List, length, take, All}
use Rattle.kanswer.specs.Waiting.{Shown}
use Rattle.kanswer.specs.LogReadings.{HasCarriable, ProduceReadings}
use Rattle.kanswer.specs.BytesRead.{bytes_read}
use Rattle.audit.specs.retelling.WasShown.{AreShown}
use Rattle.audit.proofs.retelling.rereading.read_numbers.Given as goal

abbrev pub invariant-loop-at : goal.invariant-loop-at
invariant-loop-at l = record {
  read : (shown : List Shown) → AreShown l.pasts l.accepted l.places shown → ProduceReadings (take l.at l.accepted) l.readings (take l.at shown);
  size : length l.readings ≡ l.at;
  offsets : All HasCarriable l.readings;
  none : bytes_read l.readings ≡ 0;
}
