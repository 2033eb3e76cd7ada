use Rattle.std.proofs.Common.{◌≡◌, map, take}
use Rattle.audit.specs.Histories.{history_of}
use Rattle.audit.proofs.retelling.past.pasts_of.Given as goal

abbrev pub invariant-loop-part : goal.invariant-loop-part
invariant-loop-part l = l.pasts ≡ map history_of (take l.part-index l.account.parts)
