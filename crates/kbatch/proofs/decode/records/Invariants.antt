use Rattle.std.proofs.Common.{◌≡◌, ◌-◌}
use Rattle.kbatch.specs.Decode.{record_at, list_at}
use Rattle.kbatch.proofs.ListsLoop.{all_with}
use Rattle.kbatch.proofs.decode.records.Given as goal

abbrev pub invariant-loop : goal.invariant-loop
invariant-loop l = all_with record_at l.records (l.count - l.counter) l.rest ≡ list_at record_at l.count l.bytes
