use Rattle.std.proofs.Common.{◌≡◌, ◌≤◌, ◌+◌, List, length, map, take, All}
use Rattle.kanswer.specs.Waiting.{Shown}
use Rattle.kanswer.specs.Answer.{budget_behind}
use Rattle.kanswer.specs.LogReadings.{FetchReadings, HasCarriable}
use Rattle.kanswer.specs.BytesRead.{bytes_read, most_left}
use Rattle.audit.specs.retelling.WasShown.{AreShown}
use Rattle.audit.proofs.retelling.rereading.read_fetch.Given as goal

abbrev pub invariant-loop-at : goal.invariant-loop-at
invariant-loop-at l = record {
  read : (shown : List Shown) → AreShown l.reader.pasts.now l.accepted l.places shown
      → FetchReadings l.reader.replica (take l.at (map (λ asked. asked.now) l.asked)) (take l.at l.accepted) l.readings (take l.at shown) l.fn.budget
      × (l.budget ≡ budget_behind l.reader.replica (take l.at (map (λ asked. asked.now) l.asked)) (take l.at shown) l.fn.budget);
  size : length l.readings ≡ l.at;
  offsets : All HasCarriable l.readings;
  room : bytes_read l.readings + most_left l.budget ≤ most_left l.fn.budget;
}
