use Rattle.std.proofs.Common.{◌≡◌, ℤ, pos, to_z, w32, [], ◌∷◌, ◌++◌, arith, ap, sym, subst, ◌∙◌}
use Rattle.std.proofs.lemmas.Int.{to_z_pos}
use Rattle.partlog.specs.declared.batch_start.BatchStart.{BatchStart}
use Rattle.partlog.specs.declared.event.PartEvent.{PartEvent}
use Rattle.partlog.specs.declared.event.PartEvent.TheVariants.{Shrink}
use Rattle.partlog.specs.Batches.{batches_of}
use Rattle.partlog.specs.History.{History}
use Rattle.partlog.specs.Lagging.{LagsAt}
use Rattle.partlog.specs.Replicas.{replica_events}
use Rattle.partlog.specs.Starts.{AreStarts}
use Rattle.partlog.proofs.Lagging.{late-shrink}
use Rattle.partlog.proofs.Tracking.{tracked-starts, left-stands, tracked-left}
use Rattle.partlog.proofs.part_log.PartLog.leave.Goals as goal

pub numbers_at-self-inside-requires : goal.numbers_at-self-inside-requires
numbers_at-self-inside-requires c =
    (batches_of c.self.inside.events c.self.inside.log, rw (c.as_slice.ensures.value, c.next_start-next.ensures) (tracked-starts c.self.inside.log c.self.inside.followers c.self.inside.events c.self.inside.starts.items c.self.inside.replicas c.self.inside.numbers c.self.invariant))

pub invariant_of-self-2 : goal.invariant_of-self-2
invariant_of-self-2 c =
    let counted = c.numbers_at-self-inside.ensures in
    let are : AreStarts c.as_slice.result.now c.next_start-next.result (batches_of c.self.inside.events c.self.inside.log) =
    rw (c.as_slice.ensures.value, c.next_start-next.ensures) (tracked-starts c.self.inside.log c.self.inside.followers c.self.inside.events c.self.inside.starts.items c.self.inside.replicas c.self.inside.numbers c.self.invariant) in
    let Late : History → Type 0 = λ h. LagsAt h.followers h.events c.args.t (pos c.args.replica) in
    let lagging : LagsAt c.self.inside.followers c.self.inside.events c.args.t (pos c.args.replica) = subst Late (sym c.self.view_is) c.requires in
    let e : PartEvent = Shrink c.args.by (pos c.args.replica) c.args.t in
    let named : to_z w32 c.args.replica ≡ pos c.args.replica = to_z_pos w32 c.args.replica (omega (arith, lagging.follower.1, c.self.invariant.few)) in
    let push : c.push.new.self ≡ c.self.inside.events ++ e ∷ [] = c.in_ok-push.ensures.ok ∙ ap (λ (r : ℤ). c.self.inside.events ++ Shrink c.args.by r c.args.t ∷ []) named in
    let entered = c.leave.ensures.stands c.self.inside.followers (replica_events c.self.inside.events) c.self.invariant.stands in
    let stands = left-stands c.self.inside.log c.self.inside.followers c.self.inside.events c.self.inside.starts.items c.self.inside.replicas c.self.inside.numbers c.self.invariant c.args.by c.args.replica c.args.t lagging c.leave.new.self entered in
    let base = ap (λ (s : BatchStart). s.base) c.next_start-next.ensures in
    let place = ap (λ (s : BatchStart). s.place) c.next_start-next.ensures in
    rw push
    (tracked-left c.self.inside.log c.self.inside.followers c.self.inside.events c.self.inside.starts.items c.self.inside.replicas c.self.inside.numbers c.self.invariant c.args.by c.args.replica c.args.t lagging c.leave.new.self entered c.numbers_at-self-inside.result
    (counted.end ∙ base)
    (counted.high c.self.inside.followers (replica_events (c.self.inside.events ++ e ∷ [])) stands)
    (counted.visible (batches_of c.self.inside.events c.self.inside.log) are) (counted.bytes ∙ place)
    (counted.insync c.self.inside.followers (replica_events (c.self.inside.events ++ e ∷ [])) stands))

pub returns-clause-late : goal.returns-clause-late
returns-clause-late c =
    let Late : History → Type 0 = λ h. LagsAt h.followers h.events c.args.t (pos c.args.replica) in
    let lagging : LagsAt c.self.inside.followers c.self.inside.events c.args.t (pos c.args.replica) = subst Late (sym c.self.view_is) c.requires in
    let named : to_z w32 c.args.replica ≡ pos c.args.replica = to_z_pos w32 c.args.replica (omega (arith, lagging.follower.1, c.self.invariant.few)) in
    let push : c.push.new.self ≡ c.self.inside.events ++ Shrink c.args.by (pos c.args.replica) c.args.t ∷ [] =
    c.in_ok-push.ensures.ok ∙ ap (λ (r : ℤ). c.self.inside.events ++ Shrink c.args.by r c.args.t ∷ []) named in
    rw push (late-shrink c.self.inside.followers c.self.inside.events c.args.by (pos c.args.replica) c.args.t c.self.invariant.late lagging)
