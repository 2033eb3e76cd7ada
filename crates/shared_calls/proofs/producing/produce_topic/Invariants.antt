use Rattle.std.proofs.Common.{◌≡◌, map, take}
use Rattle.kanswer.specs.BytesRead.{bytes_read}
use Rattle.shared_calls.specs.Stand.{HasProduced, IsEven, OnProduce, stand}
use Rattle.shared_calls.proofs.producing.produce_topic.Given as goal

abbrev pub invariant-loop-part : goal.invariant-loop-part
invariant-loop-part g l = record {
  made : l.pass.made ≡ l.call.by.now.logs.now;
  come : OnProduce l.call.config.now l.call.terms (map (λ part. (l.topic.name, part)) (take l.part-index l.topic.parts)) (λ next. HasProduced l.call.config.now l.call.by.now.seq next (stand l.fn.pass l.fn.points l.fn.came) (stand l.pass l.points l.came));
  even : IsEven l.fn.came → IsEven l.came;
  room : bytes_read l.came.readings ≡ bytes_read l.fn.came.readings;
}
