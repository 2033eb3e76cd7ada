use Rattle.std.proofs.Common.{⊎_elim, ◌≡◌, ◌∙◌, ◌<◌, ◌≤◌, true, arith, subst, sym}
use Rattle.std.proofs.lemmas.Bool.{cases_lt}
use Rattle.room_table.specs.Seats.{caller_now}
use Rattle.purgatory.proofs.Goes.{ends_after}
use Rattle.purgatory.proofs.Marks.{listing_far}
use Rattle.purgatory.proofs.room.Room.list_needs.Goals as goal

pub returns-in-Some-clause-some : goal.returns-in-Some-clause-some
returns-in-Some-clause-some g c = ends_after c.in-Some.done c.args.owner.now c.loop-at.owner c.list_need.new.owner c.loop-at.invariant.goes.keeps c.in-Some.ensures.some

pub loop-at-preserved : goal.loop-at-preserved
loop-at-preserved g c =
    let i = c.loop-at.invariant in
    let at = c.loop-at.at in
    let new = c.list_need.new.owner in
    let h = c.in_default.ensures.none in
    record {
      goes = listing_far c.args.owner.now c.loop-at.owner new i.goes h.goes;
      seen = λ j less.
          ⊎_elim
          (λ (lower : j < at). h.goes.marks j (i.seen j lower))
          (λ (m : at ≤ j). let same : j ≡ at = omega (arith, less, m) in subst (λ k. (caller_now new).seen k ≡ true) (sym same) h.seen)
          (cases_lt j at);
      keys = c.in_default.ensures.keys ∙ i.keys;
    }
