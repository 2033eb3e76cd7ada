use Rattle.std.proofs.Common.{◌≡◌, ◌-◌, ◌^◌, min, length, take}
use Rattle.std.specs.List.{flat_map}
use Rattle.kbatch.specs.Record.{header_bytes}
use Rattle.kbatch.proofs.size.headers_size.Given as goal

abbrev pub invariant-loop-header : goal.invariant-loop-header
invariant-loop-header l = l.size ≡ min (length (flat_map header_bytes (take l.header-index l.headers))) (2 ^ 64 - 1)
