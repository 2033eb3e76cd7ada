use Rattle.std.proofs.Common.{◌≡◌, ◌<◌, ℕ, pos, List, [], ◌∷◌, length, get_or, map, ap, subst, ◌∙◌, arith}
use Rattle.kwire.specs.declared.request.FetchPart.{FetchPart}
use Rattle.kwire.specs.declared.request.FetchTopic.{FetchTopic}
use Rattle.kanswer.specs.Decisions.{fetch_decisions}
use Rattle.shared_calls.specs.Stand.{HasFetched, IsStopped, stand}
use Rattle.shared_calls.proofs.Coming.{fetched_none}
use Rattle.shared_calls.proofs.Nexts.{fetch_next_stopped, fetched_next, same_item, taken_all}
use Rattle.shared_calls.proofs.One.{on_err}
use Rattle.shared_calls.proofs.fetching.fetch_topic.Goals as goal

pub loop-part-init : goal.loop-part-init
loop-part-init g c = record {
  made = c.requires.made;
  come = fetched_none c.args.call.now.config.now c.args.call.now.by.now.seq c.args.call.now.replica (stand c.args.pass.now c.args.points.now c.args.came.now) c.args.budget.now;
  even = λ e. e;
  room = omega arith;
}

pub returns-in_err-fetch_one-clause-stopped : goal.returns-in_err-fetch_one-clause-stopped
returns-in_err-fetch_one-clause-stopped g c =
    let config = c.args.call.now.config.now in
    let seq = c.args.call.now.by.now.seq in
    let r = c.args.call.now.replica in
    let items : c.as_slice-part-items.result.now ≡ c.args.topic.now.parts = c.as_slice-part-items.ensures ∙ ap (λ (t : FetchTopic). t.parts) c.topic.view_is in
    let i = c.loop-part.part-index in
    let none : FetchPart = record { index = pos 0; offset = pos 0; log_start = pos 0; most = pos 0 } in
    let part : FetchPart = get_or c.as_slice-part-items.result.now i none in
    let there : i < length c.args.topic.now.parts = omega (arith, c.loop-part-test.true, ap length items) in
    let is : part ≡ get_or c.args.topic.now.parts i part = ap (λ (xs : List FetchPart). get_or xs i none) items ∙ same_item c.args.topic.now.parts i none part there in
    let a = stand c.args.pass.now c.args.points.now c.args.came.now in
    let b = stand c.loop-part.pass c.loop-part.points c.loop-part.came in
    let then = subst (λ (name : List ℕ). IsStopped config seq (fetch_decisions config r ((name, part) ∷ [])) b c.fetch_one.new.pass c.fetch_one.new.points) (ap (λ (t : FetchTopic). t.name) c.topic.view_is) c.in_err-fetch_one.ensures.stopped in
    let all = fetch_next_stopped config seq r c.args.topic.now.name c.args.topic.now.parts i part there is a b c.args.budget.now c.loop-part.budget c.fetch_one.new.pass c.fetch_one.new.points c.loop-part.invariant.come then in
    on_err c.from_residual.result all

pub loop-part-preserved : goal.loop-part-preserved
loop-part-preserved g c =
    let config = c.args.call.now.config.now in
    let seq = c.args.call.now.by.now.seq in
    let r = c.args.call.now.replica in
    let items : c.as_slice-part-items.result.now ≡ c.args.topic.now.parts = c.as_slice-part-items.ensures ∙ ap (λ (t : FetchTopic). t.parts) c.topic.view_is in
    let i = c.loop-part.part-index in
    let none : FetchPart = record { index = pos 0; offset = pos 0; log_start = pos 0; most = pos 0 } in
    let part : FetchPart = get_or c.as_slice-part-items.result.now i none in
    let there : i < length c.args.topic.now.parts = omega (arith, c.loop-part-test.true, ap length items) in
    let is : part ≡ get_or c.args.topic.now.parts i part = ap (λ (xs : List FetchPart). get_or xs i none) items ∙ same_item c.args.topic.now.parts i none part there in
    let a = stand c.args.pass.now c.args.points.now c.args.came.now in
    let b = stand c.loop-part.pass c.loop-part.points c.loop-part.came in
    let d = stand c.fetch_one.new.pass c.fetch_one.new.points c.fetch_one.new.came in
    let then = subst (λ (name : List ℕ). HasFetched config seq (fetch_decisions config r ((name, part) ∷ [])) r (part ∷ []) b c.loop-part.budget d c.fetch_one.new.budget) (ap (λ (t : FetchTopic). t.name) c.topic.view_is) c.in_ok-fetch_one.ensures.come in
    record {
      made = c.in_ok-fetch_one.ensures.made;
      come = fetched_next config seq r c.args.topic.now.name c.args.topic.now.parts i part there is a b c.args.budget.now c.loop-part.budget d c.fetch_one.new.budget c.loop-part.invariant.come then;
      even = λ e. c.in_ok-fetch_one.ensures.even (c.loop-part.invariant.even e);
      room = omega (arith, c.in_ok-fetch_one.ensures.room, c.loop-part.invariant.room);
    }

pub returns-clause-come : goal.returns-clause-come
returns-clause-come g c =
    let config = c.args.call.now.config.now in
    let items : c.as_slice-part-items.result.now ≡ c.args.topic.now.parts = c.as_slice-part-items.ensures ∙ ap (λ (t : FetchTopic). t.parts) c.topic.view_is in
    let a = stand c.args.pass.now c.args.points.now c.args.came.now in
    let b = stand c.loop-part.pass c.loop-part.points c.loop-part.came in
    let z = c.args.call.now.replica in
    let D : List FetchPart → Type 0 = λ ps. HasFetched config c.args.call.now.by.now.seq (fetch_decisions config z (map (λ part. (c.args.topic.now.name, part)) ps)) z ps a c.args.budget.now b c.loop-part.budget in
    subst D (taken_all c.args.topic.now.parts c.loop-part.part-index (omega (arith, c.loop-part-test.false, ap length items))) c.loop-part.invariant.come
