use Rattle.std.proofs.Common.{◌≡◌, length, All}
use Rattle.room_core.specs.ScannerTables.{scanner_of}
use Rattle.room_core.specs.Start.{idle_scanner}
use Rattle.room_core.proofs.core_state.idle_scanners.Given as goal

abbrev pub invariant-loop-scanner : goal.invariant-loop-scanner
invariant-loop-scanner l = record {
  long : length l.scanners.items ≡ l._scanner;
  shape : All (λ c. c.shape ≡ l.shape) l.scanners.items;
  idle : All (λ c. scanner_of c ≡ idle_scanner) l.scanners.items;
}
