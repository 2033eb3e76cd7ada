use Rattle.std.proofs.Common.{◌∙◌, ℕ, ap, None, Some}
use Rattle.purgatory.proofs.Laws.{polled_owed}
use Rattle.two_warehouses.proofs.end_of.Goals as goal

pub loop-preserved : goal.loop-preserved
loop-preserved g c = record {
  made = c.in_default.ensures.made;
  waits = c.in_default.ensures.none;
  paid = λ gauge. ap (λ (owed : ℕ → ℕ). owed gauge) (polled_owed None c.loop.pass.seat c.poll.new.pass.seat c.in_default.ensures.step) ∙ c.loop.invariant.paid gauge;
}

pub returns-in-Some : goal.returns-in-Some
returns-in-Some g c = record {
  made = c.in-Some.ensures.made;
  idle = c.in-Some.ensures.some.idle;
  paid = λ gauge. ap (λ (owed : ℕ → ℕ). owed gauge) (polled_owed (Some c.in-Some.done) c.loop.pass.seat c.poll.new.pass.seat c.in-Some.ensures.step) ∙ c.loop.invariant.paid gauge;
}
