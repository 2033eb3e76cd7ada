use Rattle.std.proofs.Common.{◌≡◌, ◌+◌, ◌*◌, ◌^◌, ◌≤◌, drop}
use Rattle.kwire.specs.Views.{ask_of}
use Rattle.kanswer.specs.Reached.{reached_by}
use Rattle.kanswer.specs.Waiting.{needs_by_part}
use Rattle.kanswer.proofs.waiting.reached.Given as goal

abbrev pub invariant-loop-at : goal.invariant-loop-at
invariant-loop-at l =
    (l.reached + reached_by (drop l.at (needs_by_part (ask_of l.ask) l.accepted)) (drop l.at l.numbers) ≡ reached_by (needs_by_part (ask_of l.ask) l.accepted) l.numbers)
    × (l.reached ≤ l.at * 2 ^ 31)
