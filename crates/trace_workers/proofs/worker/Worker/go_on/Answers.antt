use Rattle.std.proofs.Common.{◌∙◌}
use Rattle.trace_workers.proofs.Workers.{same_on}
use Rattle.trace_workers.proofs.worker.Worker.go_on.Goals as goal

pub round-requires : goal.round-requires
round-requires g c = let r = c.requires.done in record { done = (r.0, c.loop.invariant.done r.0 r.1) }

pub returns-then-not-branch-clause-done : goal.returns-then-not-branch-clause-done
returns-then-not-branch-clause-done g c lines h = c.in_ok-round.ensures.done lines (c.loop.invariant.done lines h)

pub loop-preserved : goal.loop-preserved
loop-preserved g c = record {
  same = same_on c.args.self.now c.loop.self c.round.new.self c.loop.invariant.same c.round.ensures.same;
  running = c.round.ensures.running ∙ c.loop.invariant.running;
  done = λ lines h. c.in_ok-round.ensures.done lines (c.loop.invariant.done lines h);
}
