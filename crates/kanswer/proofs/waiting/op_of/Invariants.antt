use Rattle.std.proofs.Common.{◌≡◌, ◌++◌, drop}
use Rattle.kwire.specs.Views.{ask_of}
use Rattle.kanswer.specs.Waiting.{needs_by_part, needs_of}
use Rattle.kanswer.proofs.Needs.{present}
use Rattle.kanswer.proofs.waiting.op_of.Given as goal

abbrev pub invariant-loop-at : goal.invariant-loop-at
invariant-loop-at l =
    (l.op.needs ++ present (drop l.at (needs_by_part (ask_of l.ask) l.accepted)) ≡ needs_of (ask_of l.ask) l.accepted)
    × (l.op.least ≡ l.initial.op.least)
    × (l.op.deadline ≡ l.initial.op.deadline)
