use Rattle.std.proofs.Common.{◌≡◌, ◌∷◌, List, Global, Vec, ap, arith, length}
use Rattle.std.specs.Vec.Iter.{into_iter_items}
use Rattle.std.proofs.lemmas.List.{length_push}
use Rattle.turn_lock.specs.declared.pass.TurnPass.{TurnPass}
use Rattle.shared_logs.specs.declared.entries.LogEntry.{LogEntry}
use Rattle.shared_logs.specs.Desks.{PartView}
use Rattle.shared_logs.proofs.Dealt.{row_step}
use Rattle.shared_logs.proofs.making.longer_rows.Goals as goal

pub loop-row-preserved : goal.loop-row-preserved
loop-row-preserved c =
    let i = c.loop-row.invariant in
    let rows = into_iter_items c.loop-row.row-iterator in
    let rows_next = into_iter_items c.next.new.self in
    let keys = into_iter_items c.loop-row.left in
    let keys_next = into_iter_items c.next-in-loop-row.new.self in
    let row : rows ≡ c.in-Some.row ∷ rows_next = c.in-Some.ensures.steps.0 in
    let key : keys ≡ c.in-Some-next.key ∷ keys_next = c.in-Some-next.ensures.cases.0 in
    let row_gone = c.in-Some.ensures.steps.1 in
    let key_gone = c.in-Some-next.ensures.cases.1 in
    let rows_taken = ap (λ (l : List (Vec (TurnPass PartView LogEntry) Global)). length l) row in
    let keys_taken = ap (λ (l : List (TurnPass PartView LogEntry)). length l) key in
    let more = c.in_ok-push-2.ensures.ok in
    let size = ap (λ (l : List (Vec (TurnPass PartView LogEntry) Global)). length l) more in
    let longer = length_push c.loop-row.longer c.push.new.self in
    let rows_len = i.rows_len in
    let keys_len = i.keys_len in
    let same = i.same in
    let count = i.count in
    record {
      rows_len = omega (arith, rows_len, row_gone, rows_taken);
      keys_len = omega (arith, keys_len, key_gone, keys_taken);
      same = omega (arith, same, rows_taken, keys_taken);
      count = omega (arith, count, rows_taken, size, longer);
      each = λ locks lock r p.
          row_step locks lock rows rows_next c.loop-row.longer c.push-in-loop-row.new.self c.in-Some.row c.push.new.self keys keys_next c.in-Some-next.key row key c.in_ok-push.ensures.items more
          (i.each locks lock r p);
    }
