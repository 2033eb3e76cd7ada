use Rattle.std.proofs.Common.{rules, arith, ◌≡◌, ◌+◌, ◌-◌, ◌<◌, [], ◌∷◌, ◌++◌, sym, ap, ◌∙◌}
use Rattle.std.proofs.lemmas.List.FromFn.{map-range_with_len_more}
use Rattle.room_table.specs.Fresh.{last_part}
use Rattle.room_table.specs.Handed.{fresh_scanner}
use Rattle.room_table.specs.Seats.{table_view, scan_view}
use Rattle.room_table.specs.Tells.{Sat}
use Rattle.room_table.proofs.Handing.{splits, scanner_left, scanner_given}
use Rattle.room_table.proofs.hand.hand_scanners.Goals as goal

pub split_seat-one-requires : goal.split_seat-one-requires
split_seat-one-requires c = (search rules, search rules, splits c.args.top.now.key c.loop-scanner.seat.id c.loop-scanner.seat.me.0)

pub loop-scanner-preserved : goal.loop-scanner-preserved
loop-scanner-preserved c =
    let shape = c.args.shape in
    let n = c.loop-scanner.scanner in
    let split = c.split_seat-one in
    let m = c.loop-scanner.seat.me in
    let was = c.loop-scanner.invariant in
    let more : n < shape.scanners - 1 = c.loop-scanner-test.true in
    let table = table_view c.args.top.now.table_id shape in
    let first = scanner_given shape n (shape.scanners - 1 - n) (shape.scanners - 1 - (n + 1)) (last_part shape) m split.new.seat.me split.result.me (omega arith) (omega arith) was.parts split.ensures.4 in
    let item : scan_view split.result.table_id n split.result.me.0 ≡ fresh_scanner table n =
    ap (λ (z : Sat). scan_view split.result.table_id n z.0) first ∙ ap (λ t. fresh_scanner (table_view t shape) n) (split.ensures.3 ∙ was.table) in
    let longer : c.push.new.self ≡ c.loop-scanner.all ++ c.fresh_scan.result ∷ [] = c.in_ok-push.ensures.ok in
    record {
      table = split.ensures.0 ∙ was.table;
      parts = scanner_left shape n (shape.scanners - 1 - n) (shape.scanners - 1 - (n + 1)) (last_part shape) m split.new.seat.me split.result.me (omega arith) (omega arith) was.parts split.ensures.2;
      given = longer ∙ (λ i. was.given i ++ (c.fresh_scan.ensures ∙ item) i ∷ []) ∙ sym (map-range_with_len_more (fresh_scanner table) 0 n n (omega arith));
    }
