use Rattle.std.proofs.Common.{◌≢◌, ◌<◌, ℕ, get_or}
use Rattle.trace_workers.specs.Sessions.{DeskView}
use Rattle.trace_workers.proofs.played.place_of.Given as goal

abbrev pub invariant-loop-at : goal.invariant-loop-at
invariant-loop-at l = (k : ℕ) (d : DeskView) → k < l.at → (get_or l.desks k d).number ≢ l.number
