use Rattle.std.proofs.Common.{rules, ◌≡◌, replicate, false, None, []}
use Rattle.room_core.specs.Start.{idle_caller}
use Rattle.room_core.proofs.Idles.{empty_table}
use Rattle.room_core.proofs.caller_part.CallerPart.idle.Goals as goal

pub returns-clause-part : goal.returns-clause-part
returns-clause-part c =
    let gauges = c.args.shape.gauges in
    let words : c.in_ok-vec.field-0.items ≡ replicate 195 0 = search rules in
    let greatest : c.in_ok-vec-2.field-0.items ≡ replicate gauges 0 = search rules in
    let owed : c.in_ok-vec-3.field-0.items ≡ replicate gauges 0 = search rules in
    let wins : c.new.result.items ≡ [] = search rules in
    let taken : c.new-2.result.items ≡ [] = search rules in
    λ d. record idle_caller {
      description = empty_table c.in_ok-vec.field-0.items 195 0 words d;
      seen = empty_table c.in_ok-nothing_seen.field-0.items 65 false c.in_ok-nothing_seen.ensures d;
      readings = empty_table c.in_ok-nothing_read.field-0.items gauges None c.in_ok-nothing_read.ensures d;
      greatest = empty_table c.in_ok-vec-2.field-0.items gauges 0 greatest d;
      owed = empty_table c.in_ok-vec-3.field-0.items gauges 0 owed d;
      wins = wins d;
      taken = taken d;
    }
