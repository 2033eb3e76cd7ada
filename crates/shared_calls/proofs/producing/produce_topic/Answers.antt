use Rattle.std.proofs.Common.{◌≡◌, ◌<◌, ℕ, List, [], ◌∷◌, length, get_or, map, refl, ap, subst, ◌∙◌, arith}
use Rattle.kwire.specs.declared.request.ProducePart.{ProducePart}
use Rattle.kwire.specs.declared.request.ProduceTopic.{ProduceTopic}
use Rattle.shared_calls.specs.Stand.{HasProduced, IsStopped, OnProduce, stand}
use Rattle.shared_calls.proofs.Coming.{none_produced}
use Rattle.shared_calls.proofs.Nexts.{produce_next_stopped, produced_next, taken_all}
use Rattle.shared_calls.proofs.One.{on_err}
use Rattle.shared_calls.proofs.producing.produce_topic.Goals as goal

pub loop-part-init : goal.loop-part-init
loop-part-init g c = record {
  made = c.requires.made;
  come = none_produced c.args.call.now.config.now c.args.call.now.by.now.seq c.args.call.now.terms (stand c.args.pass.now c.args.points.now c.args.came.now);
  even = λ e. e;
  room = refl;
}

pub returns-in_err-produce_one-clause-stopped : goal.returns-in_err-produce_one-clause-stopped
returns-in_err-produce_one-clause-stopped g c =
    let config = c.args.call.now.config.now in
    let seq = c.args.call.now.by.now.seq in
    let items : c.as_slice-part-items.result.now ≡ c.args.topic.now.parts = c.as_slice-part-items.ensures ∙ ap (λ (t : ProduceTopic). t.parts) c.topic.view_is in
    let i = c.loop-part.part-index in
    let part = c.part-item.result in
    let there : i < length c.args.topic.now.parts = omega (arith, c.loop-part-test.true, ap length items) in
    let is : part ≡ get_or c.args.topic.now.parts i part = c.part-item.is ∙ ap (λ (xs : List ProducePart). get_or xs i part) items in
    let a = stand c.args.pass.now c.args.points.now c.args.came.now in
    let b = stand c.loop-part.pass c.loop-part.points c.loop-part.came in
    let then = subst (λ (name : List ℕ). OnProduce config c.args.call.now.terms ((name, part) ∷ []) (λ next. IsStopped config seq next b c.produce_one.new.pass c.produce_one.new.points)) (ap (λ (t : ProduceTopic). t.name) c.topic.view_is) c.in_err-produce_one.ensures.stopped in
    on_err c.from_residual.result (produce_next_stopped config seq c.args.call.now.terms c.args.topic.now.name c.args.topic.now.parts i part there is a b c.produce_one.new.pass c.produce_one.new.points c.loop-part.invariant.come then)

pub loop-part-preserved : goal.loop-part-preserved
loop-part-preserved g c =
    let config = c.args.call.now.config.now in
    let seq = c.args.call.now.by.now.seq in
    let items : c.as_slice-part-items.result.now ≡ c.args.topic.now.parts = c.as_slice-part-items.ensures ∙ ap (λ (t : ProduceTopic). t.parts) c.topic.view_is in
    let i = c.loop-part.part-index in
    let part = c.part-item.result in
    let there : i < length c.args.topic.now.parts = omega (arith, c.loop-part-test.true, ap length items) in
    let is : part ≡ get_or c.args.topic.now.parts i part = c.part-item.is ∙ ap (λ (xs : List ProducePart). get_or xs i part) items in
    let a = stand c.args.pass.now c.args.points.now c.args.came.now in
    let b = stand c.loop-part.pass c.loop-part.points c.loop-part.came in
    let d = stand c.produce_one.new.pass c.produce_one.new.points c.produce_one.new.came in
    let then = subst (λ (name : List ℕ). OnProduce config c.args.call.now.terms ((name, part) ∷ []) (λ next. HasProduced config seq next b d)) (ap (λ (t : ProduceTopic). t.name) c.topic.view_is) c.in_ok-produce_one.ensures.come in
    record {
      made = c.in_ok-produce_one.ensures.made;
      come = produced_next config seq c.args.call.now.terms c.args.topic.now.name c.args.topic.now.parts i part there is a b d c.loop-part.invariant.come then;
      even = λ e. c.in_ok-produce_one.ensures.even (c.loop-part.invariant.even e);
      room = c.in_ok-produce_one.ensures.room ∙ c.loop-part.invariant.room;
    }

pub returns-clause-come : goal.returns-clause-come
returns-clause-come g c =
    let config = c.args.call.now.config.now in
    let items : c.as_slice-part-items.result.now ≡ c.args.topic.now.parts = c.as_slice-part-items.ensures ∙ ap (λ (t : ProduceTopic). t.parts) c.topic.view_is in
    let a = stand c.args.pass.now c.args.points.now c.args.came.now in
    let b = stand c.loop-part.pass c.loop-part.points c.loop-part.came in
    subst (λ (ps : List ProducePart). OnProduce config c.args.call.now.terms (map (λ part. (c.args.topic.now.name, part)) ps) (λ next. HasProduced config c.args.call.now.by.now.seq next a b))
    (taken_all c.args.topic.now.parts c.loop-part.part-index (omega (arith, c.loop-part-test.false, ap length items))) c.loop-part.invariant.come
