use Rattle.std.proofs.Common.{◌≡◌, ◌∙◌, List, ◌∷◌, ap, arith, length, map, subst, sym}
use Rattle.std.specs.Vec.Iter.{into_iter_items}
use Rattle.room_table.specs.Seats.{ScanView}
use Rattle.purgatory.specs.Making.{AreFrom, IsFreshScanner}
use Rattle.purgatory.specs.Turning.{lock_view, shard_name}
use Rattle.purgatory.proofs.Rings.{fresh_keys, names_step, popped_len, rows_step}
use Rattle.purgatory.proofs.making.shard_locks.Goals as goal

pub loop-seat-preserved : goal.loop-seat-preserved
loop-seat-preserved c =
    let i = c.loop-seat.invariant in
    let seat = c.in-Some.seat in
    let locks = c.loop-seat.locks.items in
    let lock = c.in_ok-lock.lock in
    let left = into_iter_items c.loop-seat.seat-iterator in
    let next = into_iter_items c.next.new.self in
    let steps : left ≡ seat ∷ next = c.in-Some.ensures.steps.0 in
    let shorter = ap (λ (l : List ScanView). length l) steps in
    let more = c.in_ok-push.ensures.items in
    let longer = popped_len c.push.new.self.items locks lock more in
    let len = i.len in
    let size = i.size in
    let gone = c.in-Some.ensures.steps.1 in
    let made = c.in_ok-lock.ensures in
    record {
      left = subst (λ n. AreFrom (IsFreshScanner c.args.shape) n next) (sym longer) (subst (AreFrom (IsFreshScanner c.args.shape) (length locks)) steps i.left).1;
      len = omega (arith, len, gone, shorter);
      size = omega (arith, size, longer, shorter);
      names = names_step locks c.push.new.self.items lock left next seat c.in_ok-desk.desk _ more steps made.lock.0 c.in_ok-desk.ensures i.names;
      count = c.in_ok-rows-2.ensures.len ∙ i.count;
      rows = rows_step locks c.push.new.self.items lock c.in_ok-rows-2.rows more
          (c.in_ok-rows-2.ensures.rows (map (lock_view shard_name) locks) (lock_view shard_name lock) i.rows (fresh_keys shard_name lock _ c.in_ok-lock.passes made.lock.0 made.passes.1));
    }
