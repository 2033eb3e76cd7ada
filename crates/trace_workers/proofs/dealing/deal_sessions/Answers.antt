use Rattle.std.proofs.Common.{◌≡◌, ◌∙◌, ◌+◌, [], ◌∷◌, ◌++◌, ℕ, List, append_assoc, ap, arith, length, subst, sym}
use Rattle.std.proofs.lemmas.List.{length_push, nil_from_length}
use Rattle.std.specs.Vec.Iter.{into_iter_items}
use Rattle.shared_broker.specs.Making.{fresh_pass}
use Rattle.shared_broker.specs.Passes.{PassView}
use Rattle.trace_workers.specs.Dealing.{AreDealing}
use Rattle.trace_workers.proofs.NewPasses.{all_passes, next_pass}
use Rattle.trace_workers.proofs.dealing.deal_sessions.Goals as goal

pub loop-pass-preserved : goal.loop-pass-preserved
loop-pass-preserved c =
    let i = c.loop-pass.invariant in
    let front = c.loop-pass.yielded in
    let pass = c.in-Some.pass in
    let next = into_iter_items c.next.new.self in
    let steps : into_iter_items c.loop-pass.pass-iterator ≡ pass ∷ next = c.in-Some.ensures.steps.0 in
    let whole : front ++ pass ∷ next ≡ c.args.passes = ap (λ (ps : List PassView). front ++ ps) (sym steps) ∙ i.whole in
    let number = c.loop-pass.number in
    let gone = c.in-Some.ensures.steps.1 in
    let shorter = ap (λ (ps : List PassView). length ps) steps in
    let len = i.len in
    record {
      number = omega (arith, i.number, length_push front pass);
      len = omega (arith, len, gone, shorter);
      whole = append_assoc front (pass ∷ []) next ∙ whole;
      dealt = λ broker count fresh first.
          let h = i.dealt broker count fresh first in
          let is : pass ≡ fresh_pass broker number = next_pass broker count front next pass (whole ∙ fresh) ∙ ap (fresh_pass broker) (sym i.number) in
          subst (λ (w : ℕ). AreDealing broker (number + 1) w c.deal_session.new.workers) h.size
          (c.in_ok-deal_session.ensures.dealt broker is (subst (λ (w : ℕ). AreDealing broker number w c.loop-pass.workers) (sym h.size) h));
      kept = λ all. c.in_ok-deal_session.ensures.kept (i.kept all);
    }

pub returns-clause-dealt : goal.returns-clause-dealt
returns-clause-dealt c broker count fresh first =
    let i = c.loop-pass.invariant in
    let front = c.loop-pass.yielded in
    let rest = into_iter_items c.loop-pass.pass-iterator in
    let len = i.len in
    let over = c.in-None.ensures.steps.0 in
    let none : rest ≡ [] = nil_from_length rest (omega (arith, len, over)) in
    let all : front ++ [] ≡ c.args.passes = ap (λ (ps : List PassView). front ++ ps) (sym none) ∙ i.whole in
    subst (λ (n : ℕ). AreDealing broker n (length c.args.workers.now) c.loop-pass.workers) (i.number ∙ all_passes broker count front (all ∙ fresh)) (i.dealt broker count fresh first)
