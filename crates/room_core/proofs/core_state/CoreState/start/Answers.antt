use Rattle.std.proofs.Common.{rules, ◌≡◌, replicate, false, refl, Vec, Global, ℕ, Option}
use Rattle.room_core.specs.declared.parts.Phase.{Phase}
use Rattle.room_core.specs.declared.parts.Session.{Session}
use Rattle.room_core.specs.declared.parts.Source.{Source}
use Rattle.room_core.specs.CallerTables.{caller_at, caller_of}
use Rattle.room_core.specs.ScannerTables.{row, scanner_at, scanner_of}
use Rattle.room_core.specs.Start.{idle_caller, idle_scanner, start_of}
use Rattle.room_core.proofs.Idles.{empty_table, same_parts}
use Rattle.room_core.proofs.core_state.CoreState.start.Goals as goal

abbrev idle : Session
idle = record { generation = 0; phase = Phase.Idle }

abbrev quiet : Source
quiet = record { stored = 0; loud = false }

pub returns : goal.returns
returns c =
    let gauges = c.args.shape.gauges in
    let passes = c.args.shape.passes in
    let value : c.in_ok-vec.field-0.items ≡ replicate gauges 0 = search rules in
    let asked : c.in_ok-vec-2.field-0.items ≡ replicate gauges 0 = search rules in
    let begun : c.in_ok-vec-3.field-0.items ≡ replicate gauges 0 = search rules in
    λ d. record (start_of c.args.shape) {
      value = empty_table c.in_ok-vec.field-0.items gauges 0 value d;
      asked = empty_table c.in_ok-vec-2.field-0.items gauges 0 asked d;
      begun = empty_table c.in_ok-vec-3.field-0.items gauges 0 begun d;
      session = empty_table c.in_ok-idle_sessions.field-0.items passes idle c.in_ok-idle_sessions.ensures d;
      description = same_parts (λ (o : Option (Vec ℕ Global)). row o 0) (λ (at : ℕ). 0) (λ r. r.items ≡ replicate 195 0) c.in_ok-word_rows.field-0.items refl (λ r e. empty_table r.items 195 0 e) c.in_ok-word_rows.ensures.rows d;
      marks = same_parts (λ (o : Option (Vec ℕ Global)). row o 0) (λ (i : ℕ). 0) (λ r. r.items ≡ replicate 65 0) c.in_ok-mark_rows.field-0.items refl (λ r e. empty_table r.items 65 0 e) c.in_ok-mark_rows.ensures.rows d;
      source = empty_table c.in_ok-quiet_sources.field-0.items gauges quiet c.in_ok-quiet_sources.ensures d;
      caller = same_parts caller_at idle_caller (λ x. caller_of x ≡ idle_caller) c.in_ok-idle_callers.field-0.items refl (λ x e. e) c.in_ok-idle_callers.ensures.idle d;
      scanner = same_parts scanner_at idle_scanner (λ x. scanner_of x ≡ idle_scanner) c.in_ok-idle_scanners.field-0.items refl (λ x e. e) c.in_ok-idle_scanners.ensures.idle d;
    }
