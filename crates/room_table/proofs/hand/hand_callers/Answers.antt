use Rattle.std.proofs.Common.{rules, arith, ◌≡◌, ◌+◌, ◌-◌, ◌<◌, [], ◌∷◌, ◌++◌, sym, ap, ◌∙◌}
use Rattle.std.proofs.lemmas.List.FromFn.{map-range_with_len_more}
use Rattle.room_table.specs.Fresh.{all_scanners}
use Rattle.room_table.specs.Handed.{fresh_caller}
use Rattle.room_table.specs.Seats.{table_view, caller_view}
use Rattle.room_table.specs.Tells.{Sat}
use Rattle.room_table.proofs.Handing.{splits, caller_left, caller_given}
use Rattle.room_table.proofs.hand.hand_callers.Goals as goal

pub split_seat-seat-requires : goal.split_seat-seat-requires
split_seat-seat-requires c = (search rules, search rules, splits c.args.top.now.key c.loop-pass.seat.id c.loop-pass.seat.me.0)

pub loop-pass-preserved : goal.loop-pass-preserved
loop-pass-preserved c =
    let shape = c.args.shape in
    let n = c.loop-pass.pass in
    let split = c.split_seat-seat in
    let m = c.loop-pass.seat.me in
    let was = c.loop-pass.invariant in
    let more : n < shape.passes = c.loop-pass-test.true in
    let table = table_view c.args.top.now.table_id shape in
    let first = caller_given shape n (shape.passes - n) (shape.passes - (n + 1)) (all_scanners shape) m split.new.seat.me split.result.me (omega arith) (omega arith) was.parts split.ensures.4 in
    let item : caller_view split.result.table_id n split.result.me.0 ≡ fresh_caller table n =
    ap (λ (z : Sat). caller_view split.result.table_id n z.0) first ∙ ap (λ t. fresh_caller (table_view t shape) n) (split.ensures.3 ∙ was.table) in
    let longer : c.push.new.self ≡ c.loop-pass.all ++ caller_view split.result.table_id n split.result.me.0 ∷ [] = c.in_ok-push.ensures.ok in
    record {
      table = split.ensures.0 ∙ was.table;
      parts = caller_left shape n (shape.passes - n) (shape.passes - (n + 1)) (all_scanners shape) m split.new.seat.me split.result.me (omega arith) (omega arith) was.parts split.ensures.2;
      given = longer ∙ (λ i. was.given i ++ item i ∷ []) ∙ sym (map-range_with_len_more (fresh_caller table) 0 n n (omega arith));
    }
