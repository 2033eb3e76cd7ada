use Rattle.std.proofs.Common.{rules, arith, ◌≡◌, ◌+◌, ◌-◌, ◌<◌, [], ◌∷◌, ◌++◌, sym, ap, ◌∙◌}
use Rattle.std.proofs.lemmas.List.FromFn.{map-range_with_len_more}
use Rattle.room_table.specs.Fresh.{all_callers}
use Rattle.room_table.specs.Handed.{fresh_source}
use Rattle.room_table.specs.Seats.{table_view, source_view}
use Rattle.room_table.specs.Tells.{Sat}
use Rattle.room_table.proofs.Handing.{splits, source_left, source_given}
use Rattle.room_table.proofs.hand.hand_sources.Goals as goal

pub split_seat-seat-requires : goal.split_seat-seat-requires
split_seat-seat-requires c = (search rules, search rules, splits c.args.top.now.key c.loop-gauge.seat.id c.loop-gauge.seat.me.0)

pub loop-gauge-preserved : goal.loop-gauge-preserved
loop-gauge-preserved c =
    let shape = c.args.shape in
    let n = c.loop-gauge.gauge in
    let split = c.split_seat-seat in
    let m = c.loop-gauge.seat.me in
    let was = c.loop-gauge.invariant in
    let more : n < shape.gauges = c.loop-gauge-test.true in
    let table = table_view c.args.top.now.table_id shape in
    let first = source_given shape n (shape.gauges - n) (shape.gauges - (n + 1)) (all_callers shape) m split.new.seat.me split.result.me (omega arith) (omega arith) was.parts split.ensures.4 in
    let item : source_view split.result.table_id n split.result.me.0 ≡ fresh_source table n =
    ap (λ (z : Sat). source_view split.result.table_id n z.0) first ∙ ap (λ t. fresh_source (table_view t shape) n) (split.ensures.3 ∙ was.table) in
    let longer : c.push.new.self ≡ c.loop-gauge.all ++ source_view split.result.table_id n split.result.me.0 ∷ [] = c.in_ok-push.ensures.ok in
    record {
      table = split.ensures.0 ∙ was.table;
      parts = source_left shape n (shape.gauges - n) (shape.gauges - (n + 1)) (all_callers shape) m split.new.seat.me split.result.me (omega arith) (omega arith) was.parts split.ensures.2;
      given = longer ∙ (λ i. was.given i ++ item i ∷ []) ∙ sym (map-range_with_len_more (fresh_source table) 0 n n (omega arith));
    }
