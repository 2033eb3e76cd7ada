use Rattle.std.proofs.Common.{◌≡◌, ◌++◌, take}
use Rattle.std.specs.List.{flat_map}
use Rattle.kbatch.specs.Record.{header_bytes}
use Rattle.kbatch.proofs.write.put_headers.Given as goal

abbrev pub invariant-loop-header : goal.invariant-loop-header
invariant-loop-header l = l.out ≡ l.initial.out ++ flat_map header_bytes (take l.header-index l.headers)
