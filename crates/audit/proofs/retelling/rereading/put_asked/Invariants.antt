use Rattle.std.proofs.Common.{◌≡◌, ◌++◌, map, take}
use Rattle.audit.proofs.retelling.rereading.put_asked.Given as goal

abbrev pub invariant-loop-asked : goal.invariant-loop-asked
invariant-loop-asked l = map (λ asked. asked.now) l.all ≡ map (λ asked. asked.now) l.fn.all ++ take l.asked-index l.parts
