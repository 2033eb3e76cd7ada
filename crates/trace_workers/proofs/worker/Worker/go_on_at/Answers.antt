use Rattle.std.proofs.Common.{◌∙◌, arith}
use Rattle.trace_workers.proofs.Workers.{as_many_sessions, same_on}
use Rattle.trace_workers.proofs.worker.Worker.go_on_at.Goals as goal

pub step-requires : goal.step-requires
step-requires g c =
    let r = c.requires.done in
    let was = c.loop.invariant in
    record {
      there = omega (arith, c.requires.there, as_many_sessions c.args.self.now c.loop.self was.same);
      done = (r.0, was.done r.0 r.1);
    }

pub returns-then-not-branch-clause-done : goal.returns-then-not-branch-clause-done
returns-then-not-branch-clause-done g c lines h = c.in_ok-step.ensures.done lines (c.loop.invariant.done lines h)

pub loop-preserved : goal.loop-preserved
loop-preserved g c = record {
  same = same_on c.args.self.now c.loop.self c.step.new.self c.loop.invariant.same c.step.ensures.same;
  running = c.step.ensures.running ∙ c.loop.invariant.running;
  done = λ lines h. c.in_ok-step.ensures.done lines (c.loop.invariant.done lines h);
  alone = λ k s other. c.step.ensures.alone k s other ∙ c.loop.invariant.alone k s other;
}
