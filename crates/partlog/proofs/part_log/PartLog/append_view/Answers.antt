use Rattle.std.proofs.Common.{◌≡◌, ℕ, ◌+◌, ◌<◌, ◌≤◌, [], ◌∷◌, ◌++◌, length, arith, ap, ◌∙◌, rules, length-append}
use Rattle.kbatch.specs.Stamp.{stamped}
use Rattle.partlog.specs.declared.batch_start.BatchStart.{BatchStart}
use Rattle.partlog.specs.declared.event.PartEvent.TheVariants.{Append}
use Rattle.partlog.specs.Batches.{batches_of}
use Rattle.partlog.specs.Replicas.{replica_events}
use Rattle.partlog.proofs.Stamping.{kept-push}
use Rattle.partlog.proofs.Tracking.{tracked-scanned, tracked-end, tracked-bound, are-pushed, pushed-stands, tracked-push}
use Rattle.partlog.proofs.Whole.{kept-end}
use Rattle.partlog.proofs.part_log.PartLog.append_view.Goals as goal

pub overflow_add-next : goal.overflow_add-next
overflow_add-next c =
    let seen = tracked-scanned c.self.inside.log c.self.inside.followers c.self.inside.events c.self.inside.starts.items c.self.inside.replicas c.self.inside.numbers c.self.invariant in
    omega (arith, seen.end, kept-end c.self.inside.log c.self.inside.events c.self.invariant.kept)

pub numbers_at-self-inside-requires : goal.numbers_at-self-inside-requires
numbers_at-self-inside-requires c =
    let log = c.self.inside.log in
    let bytes = c.bytes-bytes.result.now in
    let w = stamped c.self.inside.numbers.end bytes in
    let first : BatchStart = record { base = c.self.inside.numbers.end; place = c.len-start.result } in
    let done : c.put_stamped.new.log ≡ log ++ w = search (rules, c.put_stamped.ensures.put, c.if-is_err-2.ensures.negation) in
    let long : length c.put_stamped.new.log ≡ length log + length bytes = search (rules, c.put_stamped.ensures.size, c.if-is_err-2.ensures.negation) in
    let size : length w ≡ length bytes = omega (arith, long, ap length done, length-append log w) in
    let here : length bytes ≡ length c.args.batch.now = ap length c.bytes-bytes.ensures.bytes in
    let items : c.push-2.new.self.items ≡ c.self.inside.starts.items ++ record { base = c.self.inside.numbers.end; place = length log } ∷ [] =
    (rw c.unwrap.ensures at c.push-2.ensures.items) ∙ ap (λ l. l ++ first ∷ []) c.reserve.ensures.items ∙ ap (λ (n : ℕ). c.self.inside.starts.items ++ record { base = c.self.inside.numbers.end; place = n } ∷ []) c.len-start.ensures in
    let next : BatchStart = record { base = c.self.inside.numbers.end + c.from.result; place = c.len.result } in
    let base : next.base ≡ c.self.inside.numbers.end + c.count-count.result = ap (λ n. c.self.inside.numbers.end + n) c.from.ensures in
    let place : next.place ≡ length (log ++ w) = c.len.ensures ∙ ap length done in
    let some : 0 < c.count-count.result = omega (arith, c.count-count.ensures.some_record) in
    let dense : c.count-count.result < length bytes = omega (arith, here, c.count-count.ensures.below) in
    let room : length log + length bytes ≤ 67108864 = omega (arith, c.if-bytes-start.false, c.len-start.ensures) in
    (batches_of (c.self.inside.events ++ Append c.args.who.by c.args.who.seq c.count-count.result (length bytes) ∷ []) (log ++ w), are-pushed c.self.inside.log c.self.inside.followers c.self.inside.events c.self.inside.starts.items c.self.inside.replicas c.self.inside.numbers c.self.invariant w c.args.who.by c.args.who.seq c.count-count.result (length bytes) some dense size room c.as_slice.result.now next (c.as_slice.ensures.value ∙ items) base place)

pub append-requires : goal.append-requires
append-requires c =
    let here = ap length c.bytes-bytes.ensures.bytes in
    record {
      fits = omega (arith, tracked-end c.self.inside.log c.self.inside.followers c.self.inside.events c.self.inside.starts.items c.self.inside.replicas c.self.inside.numbers c.self.invariant, tracked-bound c.self.inside.log c.self.inside.followers c.self.inside.events c.self.inside.starts.items c.self.inside.replicas c.self.inside.numbers c.self.invariant, here, c.count-count.ensures.below, c.if-bytes-start.false);
    }

pub invariant_of-self-2 : goal.invariant_of-self-2
invariant_of-self-2 c =
    let log = c.self.inside.log in
    let bytes = c.bytes-bytes.result.now in
    let w = stamped c.self.inside.numbers.end bytes in
    let first : BatchStart = record { base = c.self.inside.numbers.end; place = c.len-start.result } in
    let done : c.put_stamped.new.log ≡ log ++ w = search (rules, c.put_stamped.ensures.put, c.if-is_err-2.ensures.negation) in
    let long : length c.put_stamped.new.log ≡ length log + length bytes = search (rules, c.put_stamped.ensures.size, c.if-is_err-2.ensures.negation) in
    let size : length w ≡ length bytes = omega (arith, long, ap length done, length-append log w) in
    let push = c.in_ok-push.ensures.ok in
    let here : length bytes ≡ length c.args.batch.now = ap length c.bytes-bytes.ensures.bytes in
    let items : c.push-2.new.self.items ≡ c.self.inside.starts.items ++ record { base = c.self.inside.numbers.end; place = length log } ∷ [] =
    (rw c.unwrap.ensures at c.push-2.ensures.items) ∙ ap (λ l. l ++ first ∷ []) c.reserve.ensures.items ∙ ap (λ (n : ℕ). c.self.inside.starts.items ++ record { base = c.self.inside.numbers.end; place = n } ∷ []) c.len-start.ensures in
    let next : BatchStart = record { base = c.self.inside.numbers.end + c.from.result; place = c.len.result } in
    let base : next.base ≡ c.self.inside.numbers.end + c.count-count.result = ap (λ n. c.self.inside.numbers.end + n) c.from.ensures in
    let place : next.place ≡ length (log ++ w) = c.len.ensures ∙ ap length done in
    let some : 0 < c.count-count.result = omega (arith, c.count-count.ensures.some_record) in
    let dense : c.count-count.result < length bytes = omega (arith, here, c.count-count.ensures.below) in
    let room : length log + length bytes ≤ 67108864 = omega (arith, c.if-bytes-start.false, c.len-start.ensures) in
    let events = c.self.inside.events ++ Append c.args.who.by c.args.who.seq c.count-count.result (length bytes) ∷ [] in
    let are = are-pushed c.self.inside.log c.self.inside.followers c.self.inside.events c.self.inside.starts.items c.self.inside.replicas c.self.inside.numbers c.self.invariant w c.args.who.by c.args.who.seq c.count-count.result (length bytes) some dense size room c.as_slice.result.now next (c.as_slice.ensures.value ∙ items) base place in
    let counted = c.numbers_at-self-inside.ensures in
    let entered = c.append.ensures.stands c.self.inside.followers (replica_events c.self.inside.events) c.self.invariant.stands in
    let stands = pushed-stands c.self.inside.log c.self.inside.followers c.self.inside.events c.self.inside.starts.items c.self.inside.replicas c.self.inside.numbers c.self.invariant w c.args.who.by c.args.who.seq c.count-count.result (length bytes) some dense size room c.append.new.self entered in
    rw (done, push)
    (tracked-push c.self.inside.log c.self.inside.followers c.self.inside.events c.self.inside.starts.items c.self.inside.replicas c.self.inside.numbers c.self.invariant w c.args.who.by c.args.who.seq c.count-count.result (length bytes) some dense size room c.append.new.self entered c.push-2.new.self.items next c.numbers_at-self-inside.result items base place counted.end
    (counted.high c.self.inside.followers (replica_events events) stands)
    (counted.visible (batches_of events (log ++ w)) are) counted.bytes
    (counted.insync c.self.inside.followers (replica_events events) stands))

pub returns-clause-limit : goal.returns-clause-limit
returns-clause-limit c =
    let seen = tracked-scanned c.self.inside.log c.self.inside.followers c.self.inside.events c.self.inside.starts.items c.self.inside.replicas c.self.inside.numbers c.self.invariant in
    omega (arith, seen.end, kept-end c.self.inside.log c.self.inside.events c.self.invariant.kept)

pub returns-clause-kept : goal.returns-clause-kept
returns-clause-kept c =
    let log = c.self.inside.log in
    let bytes = c.bytes-bytes.result.now in
    let w = stamped c.self.inside.numbers.end bytes in
    let done : c.put_stamped.new.log ≡ log ++ w = search (rules, c.put_stamped.ensures.put, c.if-is_err-2.ensures.negation) in
    let long : length c.put_stamped.new.log ≡ length log + length bytes = search (rules, c.put_stamped.ensures.size, c.if-is_err-2.ensures.negation) in
    let size : length w ≡ length bytes = omega (arith, long, ap length done, length-append log w) in
    let here : length bytes ≡ length c.args.batch.now = ap length c.bytes-bytes.ensures.bytes in
    let some : 0 < c.count-count.result = omega (arith, c.count-count.ensures.some_record) in
    let dense : c.count-count.result < length bytes = omega (arith, here, c.count-count.ensures.below) in
    let room : length log + length bytes ≤ 67108864 = omega (arith, c.if-bytes-start.false, c.len-start.ensures) in
    rw (done, c.in_ok-push.ensures.ok) (kept-push log w c.self.inside.events c.args.who.by c.args.who.seq c.count-count.result (length bytes) c.self.invariant.kept some dense size room)
