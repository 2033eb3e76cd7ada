use Rattle.std.proofs.Common.{List, refl, subst, ◌∙◌, arith}
use Rattle.kanswer.specs.Decisions.{produce_parts}
use Rattle.kwire.specs.declared.request.ProduceTopic.{ProduceTopic}
use Rattle.shared_calls.specs.Stand.{HasProduced, OnProduce, stand}
use Rattle.shared_calls.proofs.Coming.{none_produced}
use Rattle.shared_calls.proofs.Nexts.{produce_topic_stopped, produced_next_topic, taken_all}
use Rattle.shared_calls.proofs.One.{on_err}
use Rattle.shared_calls.proofs.producing.produce_topics.Goals as goal

pub loop-topic-init : goal.loop-topic-init
loop-topic-init g c = record {
  made = c.requires.made;
  come = none_produced c.args.call.now.config.now c.args.call.now.by.now.seq c.args.call.now.terms (stand c.args.pass.now c.args.points.now c.args.came.now);
  even = λ e. e;
  room = refl;
}

pub returns-in_err-produce_topic-clause-stopped : goal.returns-in_err-produce_topic-clause-stopped
returns-in_err-produce_topic-clause-stopped g c =
    on_err c.from_residual.result
    (produce_topic_stopped c.args.call.now.config.now c.args.call.now.by.now.seq c.args.call.now.terms c.args.topics.now c.loop-topic.topic-index c.topic-item.result c.loop-topic-test.true c.topic-item.is
    (stand c.args.pass.now c.args.points.now c.args.came.now) (stand c.loop-topic.pass c.loop-topic.points c.loop-topic.came) c.produce_topic.new.pass c.produce_topic.new.points c.loop-topic.invariant.come c.in_err-produce_topic.ensures.stopped)

pub loop-topic-preserved : goal.loop-topic-preserved
loop-topic-preserved g c = record {
  made = c.in_ok-produce_topic.ensures.made;
  come = produced_next_topic c.args.call.now.config.now c.args.call.now.by.now.seq c.args.call.now.terms c.args.topics.now c.loop-topic.topic-index c.topic-item.result c.loop-topic-test.true c.topic-item.is
      (stand c.args.pass.now c.args.points.now c.args.came.now) (stand c.loop-topic.pass c.loop-topic.points c.loop-topic.came) (stand c.produce_topic.new.pass c.produce_topic.new.points c.produce_topic.new.came)
      c.loop-topic.invariant.come c.in_ok-produce_topic.ensures.come;
  even = λ e. c.in_ok-produce_topic.ensures.even (c.loop-topic.invariant.even e);
  room = c.in_ok-produce_topic.ensures.room ∙ c.loop-topic.invariant.room;
}

pub returns-clause-come : goal.returns-clause-come
returns-clause-come g c =
    subst (λ (ts : List ProduceTopic). OnProduce c.args.call.now.config.now c.args.call.now.terms (produce_parts ts) (λ next. HasProduced c.args.call.now.config.now c.args.call.now.by.now.seq next
    (stand c.args.pass.now c.args.points.now c.args.came.now) (stand c.loop-topic.pass c.loop-topic.points c.loop-topic.came)))
    (taken_all c.args.topics.now c.loop-topic.topic-index (omega (arith, c.loop-topic-test.false))) c.loop-topic.invariant.come
