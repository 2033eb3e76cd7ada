use Rattle.std.proofs.Common.{◌≡◌, ◌-◌, ◌*◌, ◌≤◌, length, take}
use Rattle.std.specs.Io.KnownBytes.{Appends}
use Rattle.hex.specs.Hex.{encode_lower}
use Rattle.commands.specs.declared.printing.TheConstants.{AT_A_TIME}
use Rattle.commands.proofs.printing.write_digits.Given as goal

abbrev pub invariant-loop-done : goal.invariant-loop-done
invariant-loop-done g l = record {
  written : Appends (g.K.Sink.written l.initial.sink) (g.K.Sink.written l.sink) (encode_lower (take l.done l.bytes));
  later : g.K.Sink.faults l.initial.sink ≤ g.K.Sink.faults l.sink;
  within : l.done ≤ length l.bytes;
  room : length l.room ≡ 2 * AT_A_TIME;
}

abbrev pub decreases-loop-done : goal.decreases-loop-done
decreases-loop-done g l = length l.bytes - l.done
