use Rattle.std.proofs.Common.{◌≡◌, ℤ, pos, [], ◌∷◌, ◌++◌, arith, refl, ap, ◌∙◌}
use Rattle.partlog.proofs.in_sync.Laws.{stands-followers}
use Rattle.partlog.specs.declared.batch_start.BatchStart.{BatchStart}
use Rattle.partlog.specs.declared.event.PartEvent.{PartEvent}
use Rattle.partlog.specs.declared.event.PartEvent.TheVariants.{Follow}
use Rattle.partlog.specs.Batches.{batches_of}
use Rattle.partlog.specs.Replicas.{replica_events}
use Rattle.partlog.specs.Starts.{AreStarts}
use Rattle.partlog.proofs.Stamping.{kept-none}
use Rattle.partlog.proofs.Tracking.{tracked-starts, tracked-end, fetched-stands, tracked-follow}
use Rattle.partlog.proofs.part_log.PartLog.follow.Goals as goal

pub fetch-requires-clause-follower : goal.fetch-requires-clause-follower
fetch-requires-clause-follower c =
    let all = stands-followers c.self.inside.followers (replica_events c.self.inside.events) c.self.inside.replicas c.self.invariant.stands in
    (c.in-Some.ensures.follower.1, omega (arith, c.in-Some.ensures.follower.2, all))

pub fetch-requires-clause-within : goal.fetch-requires-clause-within
fetch-requires-clause-within c =
    omega (arith, c.in-Some-offset_within.ensures.within.1, tracked-end c.self.inside.log c.self.inside.followers c.self.inside.events c.self.inside.starts.items c.self.inside.replicas c.self.inside.numbers c.self.invariant)

pub numbers_at-self-inside-requires : goal.numbers_at-self-inside-requires
numbers_at-self-inside-requires c =
    (batches_of c.self.inside.events c.self.inside.log, rw (c.as_slice.ensures.value, c.next_start-next.ensures) (tracked-starts c.self.inside.log c.self.inside.followers c.self.inside.events c.self.inside.starts.items c.self.inside.replicas c.self.inside.numbers c.self.invariant))

pub invariant_of-self-2 : goal.invariant_of-self-2
invariant_of-self-2 c =
    let follower = c.in-Some.follower in
    let offset = c.in-Some-offset_within.offset in
    let counted = c.numbers_at-self-inside.ensures in
    let are : AreStarts c.as_slice.result.now c.next_start-next.result (batches_of c.self.inside.events c.self.inside.log) =
    rw (c.as_slice.ensures.value, c.next_start-next.ensures) (tracked-starts c.self.inside.log c.self.inside.followers c.self.inside.events c.self.inside.starts.items c.self.inside.replicas c.self.inside.numbers c.self.invariant) in
    let e : PartEvent = Follow c.args.who.by c.args.who.seq (pos follower) offset c.args.t in
    let push : c.push.new.self ≡ c.self.inside.events ++ e ∷ [] =
    c.in_ok-push.ensures.ok ∙ ap (λ (r : ℤ). c.self.inside.events ++ Follow c.args.who.by c.args.who.seq r offset c.args.t ∷ []) c.in-Some.ensures.follower.0 in
    let entered = c.fetch.ensures.stands c.self.inside.followers (replica_events c.self.inside.events) c.self.invariant.stands in
    let stands = fetched-stands c.self.inside.log c.self.inside.followers c.self.inside.events c.self.inside.starts.items c.self.inside.replicas c.self.inside.numbers c.self.invariant c.args.who.by c.args.who.seq follower offset c.args.t c.fetch.new.self entered in
    let base = ap (λ (s : BatchStart). s.base) c.next_start-next.ensures in
    let place = ap (λ (s : BatchStart). s.place) c.next_start-next.ensures in
    rw push
    (tracked-follow c.self.inside.log c.self.inside.followers c.self.inside.events c.self.inside.starts.items c.self.inside.replicas c.self.inside.numbers c.self.invariant c.args.who.by c.args.who.seq follower offset c.args.t c.fetch.new.self entered c.numbers_at-self-inside.result
    (counted.end ∙ base)
    (counted.high c.self.inside.followers (replica_events (c.self.inside.events ++ e ∷ [])) stands)
    (counted.visible (batches_of c.self.inside.events c.self.inside.log) are) (counted.bytes ∙ place)
    (counted.insync c.self.inside.followers (replica_events (c.self.inside.events ++ e ∷ [])) stands))

pub returns-clause-kept : goal.returns-clause-kept
returns-clause-kept c =
    let e : PartEvent = Follow c.args.who.by c.args.who.seq (pos c.in-Some.follower) c.in-Some-offset_within.offset c.args.t in
    let push : c.push.new.self ≡ c.self.inside.events ++ e ∷ [] =
    c.in_ok-push.ensures.ok ∙ ap (λ (r : ℤ). c.self.inside.events ++ Follow c.args.who.by c.args.who.seq r c.in-Some-offset_within.offset c.args.t ∷ []) c.in-Some.ensures.follower.0 in
    rw push (kept-none c.self.inside.log c.self.inside.events e refl tt c.self.invariant.kept)
