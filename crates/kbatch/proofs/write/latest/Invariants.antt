use Rattle.std.proofs.Common.{◌≡◌, map, fold, take}
use Rattle.std.specs.Int.{int_max}
use Rattle.kbatch.proofs.write.latest.Given as goal

abbrev pub invariant-loop-record : goal.invariant-loop-record
invariant-loop-record l = l.latest ≡ fold int_max l.first (map (λ r. r.time) (take l.record-index l.others))
