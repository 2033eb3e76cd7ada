use Rattle.std.proofs.Common.{◌≡◌, ◌<◌, ℕ, length, get_or, cond, true, is_some, arith, ◌∙◌, ap, sym, Some, None}
use Rattle.room_core.specs.Put.{put}
use Rattle.room_core.specs.ScannerTables.{scanner_of}
use Rattle.room_core.proofs.Views.{table_set}
use Rattle.room_core.proofs.scanner_part.ScannerPart.reads.Goals as goal

pub returns-then-is_some-clause-part : goal.returns-then-is_some-clause-part
returns-then-is_some-clause-part c =
    let l : c.args.gauge < length c.args.self.now.readings.items = omega (arith, c.args.self.now.sized.readings_size) in
    let is : is_some c.args.self.now.meeting ≡ true = sym c.is_some.ensures ∙ c.if-is_some.true in
    let old = λ (i : ℕ). get_or c.args.self.now.readings.items i None in
    λ d. record (scanner_of c.args.self.now) {
      readings = (table_set c.args.self.now.readings.items c.args.gauge (Some c.args.value) None l ∙ sym (ap (λ b. cond b (put old c.args.gauge (Some c.args.value)) old) is)) d;
    }
