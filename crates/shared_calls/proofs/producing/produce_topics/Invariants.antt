use Rattle.std.proofs.Common.{◌≡◌, take}
use Rattle.kanswer.specs.Decisions.{produce_parts}
use Rattle.kanswer.specs.BytesRead.{bytes_read}
use Rattle.shared_calls.specs.Stand.{HasProduced, IsEven, OnProduce, stand}
use Rattle.shared_calls.proofs.producing.produce_topics.Given as goal

abbrev pub invariant-loop-topic : goal.invariant-loop-topic
invariant-loop-topic g l = record {
  made : l.pass.made ≡ l.call.by.now.logs.now;
  come : OnProduce l.call.config.now l.call.terms (produce_parts (take l.topic-index l.topics)) (λ next. HasProduced l.call.config.now l.call.by.now.seq next (stand l.fn.pass l.fn.points l.fn.came) (stand l.pass l.points l.came));
  even : IsEven l.fn.came → IsEven l.came;
  room : bytes_read l.came.readings ≡ bytes_read l.fn.came.readings;
}
