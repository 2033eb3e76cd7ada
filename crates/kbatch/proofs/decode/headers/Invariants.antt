use Rattle.std.proofs.Common.{◌≡◌, ◌-◌}
use Rattle.kbatch.specs.Walk.{header_at}
use Rattle.kbatch.specs.Decode.{list_at}
use Rattle.kbatch.proofs.ListsLoop.{all_with}
use Rattle.kbatch.proofs.decode.headers.Given as goal

abbrev pub invariant-loop : goal.invariant-loop
invariant-loop l = all_with header_at l.headers (l.count - l.counter) l.rest ≡ list_at header_at l.count l.bytes
