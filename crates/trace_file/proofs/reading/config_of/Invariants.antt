use Rattle.std.proofs.Common.{◌≡◌, take}
use Rattle.trace_file.specs.Contents.{configuration_of}
use Rattle.trace_file.proofs.reading.config_of.Given as goal

abbrev pub invariant-loop-line : goal.invariant-loop-line
invariant-loop-line l = l.config ≡ configuration_of l.port (take l.line-index l.lines)
