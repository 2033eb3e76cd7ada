use Rattle.std.proofs.Common.{◌≡◌, ◌-◌}
use Rattle.kbatch.specs.Walk.{after_headers}
use Rattle.kbatch.proofs.walk.after_headers.Given as goal

-- what is left leads to where all of them lead
abbrev pub invariant-loop : goal.invariant-loop
invariant-loop l = after_headers (l.count - l.counter) l.rest ≡ after_headers l.count l.bytes
