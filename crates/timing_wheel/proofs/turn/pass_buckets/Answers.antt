use Rattle.std.proofs.Common.{◌≡◌, ◌≢◌, ◌+◌, ◌/◌, ◌%◌, ◌<◌, ◌≤◌, ⊎_elim, inl, inr, ap, sym, ◌∙◌, arith}
use Rattle.std.proofs.lemmas.Bool.{cases_eq}
use Rattle.timing_wheel.specs.declared.place.Place.{Place}
use Rattle.timing_wheel.specs.Place.{tick_of, level_of, span_of}
use Rattle.timing_wheel.specs.Wait.{Waits, AllTurnedBelow}
use Rattle.timing_wheel.proofs.Levels.{tick_positive}
use Rattle.timing_wheel.proofs.Turns.{part-none, level_from_number}
use Rattle.timing_wheel.proofs.Passes.{come_from_bucket, waits_after}
use Rattle.timing_wheel.proofs.turn.pass_buckets.Goals as goal

pub nonzero_div-start : goal.nonzero_div-start
nonzero_div-start c = rw c.requires.tick (tick_positive c.args.level)

pub nonzero_div-t : goal.nonzero_div-t
nonzero_div-t c = rw c.requires.tick (tick_positive c.args.level)

pub loop-step-init : goal.loop-step-init
unfolding AllTurnedBelow
loop-step-init c = record {
  part = part-none c.args.t c.args.entries.now c.args.due.now;
  below = λ id e is.
      ⊎_elim
      (λ (l : (c.args.level ≤ level_of e) × Waits c.args.now e).
      inl (
        l.0,
        l.1,
        (λ same.
            let tick = c.requires.tick ∙ ap tick_of (sym same) in
            let n : c.args.now / c.args.tick ≡ c.args.now / span_of e = ap (λ u. c.args.now / u) tick in
            let ahead = l.1.ahead in
            omega arith),
      ))
      (λ (w : (level_of e < c.args.level) × Waits c.args.t e). inr w)
      (c.requires.below id e is);
}

pub turn_bucket-requires-clause-come : goal.turn_bucket-requires-clause-come
turn_bucket-requires-clause-come c = λ id e is number.
    let place : Place = record { level = c.args.level; bucket = (c.args.now / c.args.tick + 1 + c.loop-step.step) % 20 } in
    let same = level_from_number e place (omega arith) number in
    let tick = c.requires.tick ∙ ap tick_of (sym same) in
    let passed = c.min-passed.ensures in
    let test = c.loop-step-test.true in
    ⊎_elim
    (λ (l : (c.args.level ≤ level_of e) × Waits c.args.now e × (level_of e ≡ c.args.level → c.args.now / c.args.tick + c.loop-step.step < e.deadline / span_of e)).
    come_from_bucket c.args.now c.args.t c.args.tick c.loop-step.step e c.requires.later tick (omega arith) (omega arith) (omega arith) l.1 (l.2 same))
    (λ (w : (level_of e < c.args.level) × Waits c.args.t e). let low = w.0 in absurd (omega arith))
    (c.loop-step.invariant.below id e is)

pub returns-clause-below : goal.returns-clause-below
unfolding AllTurnedBelow
returns-clause-below c = λ id e is.
    let passed = c.min-passed.ensures in
    let test = c.loop-step-test.false in
    ⊎_elim
    (λ (l : (c.args.level ≤ level_of e) × Waits c.args.now e × (level_of e ≡ c.args.level → c.args.now / c.args.tick + c.loop-step.step < e.deadline / span_of e)).
    ⊎_elim
    (λ (same : level_of e ≡ c.args.level).
    let tick = c.requires.tick ∙ ap tick_of (sym same) in
    inr (omega arith, waits_after c.args.now c.args.t c.args.tick c.loop-step.step e c.requires.later tick (omega arith) l.1 (l.2 same)))
    (λ (other : level_of e ≢ c.args.level). let low = l.0 in inl (omega arith, l.1))
    (cases_eq (level_of e) c.args.level))
    (λ (w : (level_of e < c.args.level) × Waits c.args.t e). let low = w.0 in inr (omega arith, w.1))
    (c.loop-step.invariant.below id e is)
