use Rattle.std.proofs.Common.{List, [], ◌∷◌, ◌++◌, ap, arith, map}
use Rattle.turn_lock.specs.declared.pass.TurnPass.{TurnPass}
use Rattle.purgatory.specs.scans.Desks.{ShardView}
use Rattle.purgatory.specs.Turning.{key_view}
use Rattle.purgatory.proofs.Rings.{keys_step, popped_len, ready_ring}
use Rattle.purgatory.proofs.making.key_rings.Goals as goal

pub invariant_of-push : goal.invariant_of-push
invariant_of-push c =
    let i = c.loop-row.invariant in
    let r = c.requires.rows in
    let p = c.requires.passes in
    let now = i.each r.0 p.0 r.2 p.1 in
    ready_ring r.0 p.0 c.loop-row.rows c.pop.new.self c.in-Some.row c.into_vec-shards.result.items c.loop-row.passes c.pop-in-Some.new.self c.in-Some-pop.clock
    c.in-Some.ensures.items c.in-Some-pop.ensures.items r.1 c.into_vec-shards.ensures now.0 now.1

pub loop-row-preserved : goal.loop-row-preserved
loop-row-preserved c =
    let i = c.loop-row.invariant in
    let rows = c.in-Some.ensures.items in
    let passes = c.in-Some-pop.ensures.items in
    let more = c.in_ok-push.ensures.ok in
    let clock = c.in-Some-pop.clock in
    let a = popped_len c.loop-row.rows c.pop.new.self c.in-Some.row rows in
    let b = popped_len c.loop-row.passes c.pop-in-Some.new.self clock passes in
    let d = popped_len c.push.new.self c.loop-row.keys _ more in
    let same = i.same in
    let count = i.count in
    record {
      same = omega (arith, a, b, same);
      count = omega (arith, a, d, count);
      each = λ locks lock r p.
          keys_step locks lock c.loop-row.rows c.pop.new.self c.in-Some.row c.loop-row.passes c.pop-in-Some.new.self clock c.loop-row.keys c.push.new.self _
          rows passes more (ap (λ (xs : List (TurnPass ShardView (Unit {0}))). map key_view xs ++ key_view clock ∷ []) c.into_vec-shards.ensures) (i.each locks lock r p);
    }

pub returns-clause-rings : goal.returns-clause-rings
returns-clause-rings c = λ locks lock r p. (c.loop-row.invariant.each locks lock r p).2
