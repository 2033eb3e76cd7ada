use Rattle.std.proofs.Common.{None, ◌∙◌, ℕ, List, ap, get_or, inl, inr, refl, sym, subst, arith}
use Rattle.std.proofs.lemmas.Bool.{cases_eq, false≢true}
use Rattle.trace_workers.specs.Dealing.{fresh_session}
use Rattle.trace_workers.specs.Resting.{Rests}
use Rattle.trace_workers.specs.Sessions.{SessionView}
use Rattle.trace_workers.proofs.joined.JoinedSessions.round.Goals as goal
use Rattle.trace_workers.proofs.joined.JoinedSessions.round.Goals.{then-branch, else-branch}

pub step-requires-clause-whole : goal.step-requires-clause-whole
step-requires-clause-whole g c = let r = c.requires.whole in (r.0, r.1, c.loop-at.invariant.whole r.0 r.1 r.2)

pub loop-at-init : goal.loop-at-init
loop-at-init g c = record {
  clock = refl;
  size = refl;
  whole = λ lines count h. h;
  kept = λ keeps all. all;
  untouched = λ k s past. refl;
  moved = λ some. absurd (false≢true some);
  rests = λ none k s less. absurd (omega (arith, less));
}

pub loop-at-preserved : goal.loop-at-preserved
loop-at-preserved g c =
    let was = c.loop-at.invariant in
    let after = c.step.new.self.sessions in
    let at = c.loop-at.at in
    record {
      clock = c.step.ensures.clock ∙ was.clock;
      size = c.step.ensures.size ∙ was.size;
      whole = λ lines count h. c.in_ok-step.ensures.whole lines count (was.whole lines count h);
      kept = λ keeps all. c.step.ensures.kept keeps (was.kept keeps all);
      untouched = λ k s past. c.step.ensures.alone k s (λ is. omega (arith, past, is)) ∙ was.untouched k s (omega (arith, past));
      moved = λ some. elim c.if-branch.branch [
        | then-branch w ↦ (at, omega arith, λ s is. c.in_ok-step.ensures.moved w.if-branch.true s (is ∙ sym (was.untouched at s (omega arith))))
        | else-branch w ↦
            let m = was.moved (sym w.did-is ∙ some) in
            (m.0, omega (arith, m.1), λ s is. m.2 s (sym (c.step.ensures.alone m.0 s (λ e. omega (arith, m.1, e))) ∙ is))
      ];
      rests = λ none k s less. elim c.if-branch.branch [
        | then-branch w ↦ absurd (false≢true (sym none ∙ w.did-is))
        | else-branch w ↦ elim (cases_eq k at) [
          | inl here ↦ subst (λ (n : ℕ). Rests (get_or after n s)) (sym here) (c.in_ok-step.ensures.rests w.if-branch.false s)
          | inr other ↦ subst Rests (sym (c.step.ensures.alone k s other)) (was.rests (sym w.did-is ∙ none) k s (omega (arith, less, other)))
        ]
      ];
    }

pub returns-in_err-step-clause-kept : goal.returns-in_err-step-clause-kept
returns-in_err-step-clause-kept g c keeps all = c.step.ensures.kept keeps (c.loop-at.invariant.kept keeps all)

pub returns-clause-moved : goal.returns-clause-moved
returns-clause-moved g c some is =
    let m = c.loop-at.invariant.moved some in
    let d : SessionView = fresh_session c.args.broker.now 0 None in
    m.2 d (ap (λ (xs : List SessionView). get_or xs m.0 d) is)
