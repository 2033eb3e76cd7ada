use Rattle.std.proofs.Common.{rules, ◌≡◌, replicate, None, Option, ℕ, refl, [], Vec, Global}
use Rattle.room_core.specs.declared.parts.Entry.{Entry}
use Rattle.room_core.specs.ScannerTables.{row}
use Rattle.room_core.specs.Start.{idle_scanner}
use Rattle.room_core.proofs.Idles.{empty_table, same_parts}
use Rattle.room_core.proofs.scanner_part.ScannerPart.idle.Goals as goal

pub returns-clause-part : goal.returns-clause-part
returns-clause-part c =
    let gauges = c.args.shape.gauges in
    let passes = c.args.shape.passes in
    let began : c.in_ok-vec.field-0.items ≡ replicate gauges 0 = search rules in
    let wins : c.new.result.items ≡ [] = search rules in
    λ d. record idle_scanner {
      began = empty_table c.in_ok-vec.field-0.items gauges 0 began d;
      listing = same_parts (λ (o : Option (Vec (Option Entry) Global)). row o None) (λ (p : ℕ). None) (λ r. r.items ≡ replicate passes None) c.in_ok-empty_rows.field-0.items refl (λ r e. empty_table r.items passes None e) c.in_ok-empty_rows.ensures.rows d;
      duties = empty_table c.in_ok-no_duties.field-0.items passes None c.in_ok-no_duties.ensures d;
      learned = empty_table c.in_ok-nothing_read.field-0.items 195 None c.in_ok-nothing_read.ensures d;
      readings = empty_table c.in_ok-nothing_read-2.field-0.items gauges None c.in_ok-nothing_read-2.ensures d;
      wins = wins d;
    }
