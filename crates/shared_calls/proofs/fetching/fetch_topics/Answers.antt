use Rattle.std.proofs.Common.{List, subst, arith}
use Rattle.kanswer.specs.Answer.{asked_parts}
use Rattle.kanswer.specs.Decisions.{fetch_decisions, fetch_parts}
use Rattle.kwire.specs.declared.request.FetchTopic.{FetchTopic}
use Rattle.shared_calls.specs.Stand.{HasFetched, stand}
use Rattle.shared_calls.proofs.Coming.{fetched_none}
use Rattle.shared_calls.proofs.Nexts.{fetch_topic_stopped, fetched_next_topic, taken_all}
use Rattle.shared_calls.proofs.One.{on_err}
use Rattle.shared_calls.proofs.fetching.fetch_topics.Goals as goal

pub loop-topic-init : goal.loop-topic-init
loop-topic-init g c = record {
  made = c.requires.made;
  come = fetched_none c.args.call.now.config.now c.args.call.now.by.now.seq c.args.call.now.replica (stand c.args.pass.now c.args.points.now c.args.came.now) c.args.budget.now;
  even = λ e. e;
  room = omega arith;
}

pub returns-in_err-fetch_topic-clause-stopped : goal.returns-in_err-fetch_topic-clause-stopped
returns-in_err-fetch_topic-clause-stopped g c =
    let config = c.args.call.now.config.now in
    let seq = c.args.call.now.by.now.seq in
    let r = c.args.call.now.replica in
    let a = stand c.args.pass.now c.args.points.now c.args.came.now in
    let b = stand c.loop-topic.pass c.loop-topic.points c.loop-topic.came in
    let all = fetch_topic_stopped config seq r c.args.topics.now c.loop-topic.topic-index c.topic-item.result c.loop-topic-test.true c.topic-item.is a b c.args.budget.now c.loop-topic.budget
    c.fetch_topic.new.pass c.fetch_topic.new.points c.loop-topic.invariant.come c.in_err-fetch_topic.ensures.stopped in
    on_err c.from_residual.result all

pub loop-topic-preserved : goal.loop-topic-preserved
loop-topic-preserved g c =
    let r = c.args.call.now.replica in
    let a = stand c.args.pass.now c.args.points.now c.args.came.now in
    let b = stand c.loop-topic.pass c.loop-topic.points c.loop-topic.came in
    let d = stand c.fetch_topic.new.pass c.fetch_topic.new.points c.fetch_topic.new.came in
    record {
      made = c.in_ok-fetch_topic.ensures.made;
      come = fetched_next_topic c.args.call.now.config.now c.args.call.now.by.now.seq r c.args.topics.now c.loop-topic.topic-index c.topic-item.result c.loop-topic-test.true c.topic-item.is a b c.args.budget.now c.loop-topic.budget
          d c.fetch_topic.new.budget c.loop-topic.invariant.come c.in_ok-fetch_topic.ensures.come;
      even = λ e. c.in_ok-fetch_topic.ensures.even (c.loop-topic.invariant.even e);
      room = omega (arith, c.in_ok-fetch_topic.ensures.room, c.loop-topic.invariant.room);
    }

pub returns-clause-come : goal.returns-clause-come
returns-clause-come g c =
    let config = c.args.call.now.config.now in
    let a = stand c.args.pass.now c.args.points.now c.args.came.now in
    let b = stand c.loop-topic.pass c.loop-topic.points c.loop-topic.came in
    let z = c.args.call.now.replica in
    let D : List FetchTopic → Type 0 = λ ts. HasFetched config c.args.call.now.by.now.seq (fetch_decisions config z (fetch_parts ts)) z (asked_parts ts) a c.args.budget.now b c.loop-topic.budget in
    subst D (taken_all c.args.topics.now c.loop-topic.topic-index (omega (arith, c.loop-topic-test.false))) c.loop-topic.invariant.come
