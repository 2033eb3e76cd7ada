use Rattle.std.proofs.Common.{⊎_elim, arith, ◌≡◌, ◌+◌, ◌/◌, ◌%◌, ◌*◌, ◌<◌, ◌≤◌, suc, ap, sym, refl, ◌∙◌, ℕ, true, false}
use Rattle.timing_wheel.specs.declared.place.Place.{Place}
use Rattle.timing_wheel.specs.Place.{tick_of}
use Rattle.std.proofs.Math.Nat.{pow-suc}
use Rattle.std.proofs.lemmas.Bool.{cases_lt}
use Rattle.timing_wheel.proofs.Levels.{tick_positive, search_stops, search_goes_on, level_is}
use Rattle.timing_wheel.proofs.Passes.{tick_fits}
use Rattle.timing_wheel.proofs.timer.Timer.spot.Goals as goal

pub loop-tick-init : goal.loop-tick-init
loop-tick-init c = record { low = omega arith; tick = refl; level = level_is c.args.self }

pub reaches-requires-clause-tick : goal.reaches-requires-clause-tick
reaches-requires-clause-tick c = let e = tick_positive c.loop-tick.level in let t = c.loop-tick.invariant.tick in omega arith

pub reaches-requires-clause-fits : goal.reaches-requires-clause-fits
reaches-requires-clause-fits c = let e = tick_fits c.loop-tick.level c.loop-tick.invariant.low in let t = c.loop-tick.invariant.tick in omega arith

pub nonzero_div-ticks : goal.nonzero_div-ticks
nonzero_div-ticks c = let e = tick_positive c.loop-tick.level in let t = c.loop-tick.invariant.tick in omega arith

pub loop-tick-preserved : goal.loop-tick-preserved
loop-tick-preserved c =
    let i = c.loop-tick.invariant in
    let u = c.loop-tick.tick in
    let d = c.args.self.deadline in
    let p = c.args.self.put in
    let far : p / u + 20 ≤ d / u =
    ⊎_elim
    (λ (h : d / u < p / u + 20). let e : true ≡ false = sym (c.reaches.ensures.1 h) ∙ c.loop-tick-test.true in absurd cc)
    (λ (h : p / u + 20 ≤ d / u). h)
    (cases_lt (d / u) (p / u + 20)) in
    let far' = rw i.tick at far in
    let r = search_goes_on c.args.self c.loop-tick.level i.low c.requires i.level (omega arith) in
    record { low = r.0; tick = ap (λ n. n * 20) i.tick ∙ sym (pow-suc 20 c.loop-tick.level) ∙ ap tick_of {x = suc c.loop-tick.level} (omega arith); level = r.1 }

pub returns : goal.returns
returns c =
    let i = c.loop-tick.invariant in
    let u = c.loop-tick.tick in
    let d = c.args.self.deadline in
    let p = c.args.self.put in
    let close : d / u < p / u + 20 = c.reaches.ensures.0 c.loop-tick-test.false in
    let close' = rw i.tick at close in
    let e = search_stops c.args.self c.loop-tick.level i.low i.level c.requires.past (omega arith) in
    let place = λ (level : ℕ). let p : Place = record { level = level; bucket = (d / tick_of level) % 20 } in p in
    record {
      place = ap (λ (t : ℕ). let p : Place = record { level = c.loop-tick.level; bucket = (d / t) % 20 } in p) i.tick ∙ ap place (sym e);
      start = ap (λ (t : ℕ). d / t * t) (i.tick ∙ ap tick_of (sym e));
      level = i.low;
      bucket = omega arith;
    }
