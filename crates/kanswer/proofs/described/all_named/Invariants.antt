use Rattle.std.proofs.Common.{◌≡◌, map, take}
use Rattle.kanswer.specs.Answer.{info_of}
use Rattle.kanswer.proofs.described.all_named.Given as goal

abbrev pub invariant-loop-name : goal.invariant-loop-name
invariant-loop-name l = l.infos ≡ map (info_of l.topics) (map (λ name. name.now) (take l.name-index l.names))
