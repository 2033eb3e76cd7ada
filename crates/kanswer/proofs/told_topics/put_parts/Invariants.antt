use Rattle.std.proofs.Common.{take}
use Rattle.std.specs.List.{flat_map}
use Rattle.kwire.proofs.Laws.{Put}
use Rattle.kanswer.specs.ToldParts.{parts_by}
use Rattle.kanswer.proofs.told_topics.put_parts.Given as goal

abbrev pub invariant-loop-at : goal.invariant-loop-at
invariant-loop-at g l =
    Put l.fn.out l.out (flat_map (g.A.Answered.told_fields l.answered) (take l.at (parts_by (g.A.Answered.told l.answered) l.parts l.accepted l.readings)))
