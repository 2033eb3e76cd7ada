use Rattle.std.proofs.Common.{◌∙◌, ℕ, List, None, ap, get_or, inl, inr, refl, sym, subst, arith}
use Rattle.std.proofs.lemmas.Bool.{cases_eq, false≢true}
use Rattle.trace_workers.specs.Dealing.{fresh_session}
use Rattle.trace_workers.specs.Resting.{Rests}
use Rattle.trace_workers.specs.Sessions.{SessionView}
use Rattle.trace_workers.proofs.Workers.{same_on, same_self}
use Rattle.trace_workers.proofs.worker.Worker.round.Goals as goal
use Rattle.trace_workers.proofs.worker.Worker.round.Goals.{then-branch, else-branch}

pub step-requires-clause-done : goal.step-requires-clause-done
step-requires-clause-done g c = let r = c.requires.done in (r.0, c.loop-at.invariant.done r.0 r.1)

pub loop-at-init : goal.loop-at-init
loop-at-init g c = record {
  same = same_self c.args.self.now;
  running = refl;
  done = λ lines h. h;
  untouched = λ k s past. refl;
  moved = λ some. absurd (false≢true some);
  rests = λ none k s less. absurd (omega (arith, less));
}

pub loop-at-preserved : goal.loop-at-preserved
loop-at-preserved g c =
    let was = c.loop-at.invariant in
    let before = c.loop-at.self.sessions in
    let after = c.step.new.self.sessions in
    let at = c.loop-at.at in
    record {
      same = same_on c.args.self.now c.loop-at.self c.step.new.self was.same c.step.ensures.same;
      running = c.step.ensures.running ∙ was.running;
      done = λ lines h. c.in_ok-step.ensures.done lines (was.done lines h);
      untouched = λ k s past. c.step.ensures.alone k s (λ is. omega (arith, past, is)) ∙ was.untouched k s (omega (arith, past));
      moved = λ some. elim c.if-branch.branch [
        | then-branch w ↦ (at, omega arith, λ s is. c.in_ok-step.ensures.moved w.if-branch.true s (is ∙ sym (was.untouched at s (omega arith))))
        | else-branch w ↦
            let m = was.moved (sym w.did-is ∙ some) in
            (m.0, omega (arith, m.1), λ s is. m.2 s (sym (c.step.ensures.alone m.0 s (λ e. omega (arith, m.1, e))) ∙ is))
      ];
      rests = λ none k s less. elim c.if-branch.branch [
        | then-branch w ↦ absurd (false≢true (sym none ∙ w.did-is))
        | else-branch w ↦ elim (cases_eq k at) [
          | inl here ↦ subst (λ (n : ℕ). Rests (get_or after n s)) (sym here) (c.in_ok-step.ensures.rests w.if-branch.false s)
          | inr other ↦ subst Rests (sym (c.step.ensures.alone k s other)) (was.rests (sym w.did-is ∙ none) k s (omega (arith, less, other)))
        ]
      ];
    }

pub returns-clause-moved : goal.returns-clause-moved
returns-clause-moved g c some is =
    let m = c.loop-at.invariant.moved some in
    let d : SessionView = fresh_session c.args.broker.now 0 None in
    m.2 d (ap (λ (xs : List SessionView). get_or xs m.0 d) is)
