use Rattle.std.proofs.Common.{⊎_elim, ◌≡◌, ◌≢◌, ℕ, ◌+◌, ◌*◌, ◌/◌, ◌%◌, ◌≤◌, Option, Some, None, is_some, true, false, ap, sym, ◌∙◌, ◌^◌, ◌-◌, arith}
use Rattle.std.specs.Option.{IfNone}
use Rattle.std.proofs.Math.Nat.{mul-le-mul_right, min-le_left}
use Rattle.std.proofs.lemmas.Bool.{cases_eq}
use Rattle.timing_wheel.specs.declared.timer.Timer.{Timer}
use Rattle.timing_wheel.specs.Place.{tick_of, level_of, span_of, place_of}
use Rattle.timing_wheel.specs.Turn.{bucket_start}
use Rattle.timing_wheel.specs.Filed.{StartFrom}
use Rattle.timing_wheel.specs.Wait.{bucket_of, number_of}
use Rattle.timing_wheel.proofs.Levels.{tick_positive}
use Rattle.timing_wheel.proofs.Passes.{waits_within}
use Rattle.timing_wheel.proofs.Slots.{bucket_of-some}
use Rattle.timing_wheel.proofs.turn.first_start.Goals as goal

pub nonzero_div-ticks : goal.nonzero_div-ticks
nonzero_div-ticks c = rw c.requires.tick (tick_positive c.args.level)

pub loop-step-init : goal.loop-step-init
loop-step-init c = λ id e is same.
    let w = c.requires.wait id e is same in
    let ahead = w.ahead in
    let n : c.args.t / c.args.tick ≡ c.args.t / span_of e = ap (λ u. c.args.t / u) (c.requires.tick ∙ ap tick_of (sym same)) in
    omega arith

none_at : (o : Option ℕ) (P : Type 0) → is_some o ≡ false → IfNone o P → P
none_at None P e h = h
none_at (Some x) P e h = let no : true ≡ false = e in absurd cc

pub loop-step-preserved : goal.loop-step-preserved
loop-step-preserved c = λ id e is same.
    let none = none_at c.first.result _ (sym c.is_some.ensures ∙ c.if-is_some.false) c.first.ensures.none id in
    let was = c.loop-step.invariant id e is same in
    ⊎_elim
    (λ (there : e.deadline / span_of e ≡ c.args.t / c.args.tick + c.loop-step.step).
    let number = c.number.ensures.same in
    let it : number_of (place_of e) ≡ c.number.result = omega arith in
    absurd (none (ap bucket_of is ∙ bucket_of-some e ∙ ap Some it)))
    (λ (other : e.deadline / span_of e ≢ c.args.t / c.args.tick + c.loop-step.step). omega arith)
    (cases_eq (e.deadline / span_of e) (c.args.t / c.args.tick + c.loop-step.step))

pub returns-then-is_some : goal.returns-then-is_some
unfolding StartFrom
returns-then-is_some c = λ id e is same.
    let ticks = c.saturating_add.result in
    let was = c.loop-step.invariant id e is same in
    let add = c.saturating_add.ensures in
    let mul = c.saturating_mul.ensures in
    let few : ticks ≤ e.deadline / span_of e = omega (arith, min-le_left (c.args.t / c.args.tick + c.loop-step.step) (2 ^ 64 - 1)) in
    let product : ticks * span_of e ≤ bucket_start e = mul-le-mul_right (span_of e) few in
    let tick : ticks * c.args.tick ≡ ticks * span_of e = ap (λ u. ticks * u) (c.requires.tick ∙ ap tick_of (sym same)) in
    omega (arith, min-le_left (ticks * c.args.tick) (2 ^ 64 - 1))

pub returns : goal.returns
unfolding StartFrom
returns c = λ id e is same.
    let was = c.loop-step.invariant id e is same in
    let end = c.loop-step-test.false in
    let within = waits_within c.args.t e (c.requires.wait id e is same) in
    let n : c.args.t / c.args.tick ≡ c.args.t / span_of e = ap (λ u. c.args.t / u) (c.requires.tick ∙ ap tick_of (sym same)) in
    absurd (omega arith)
