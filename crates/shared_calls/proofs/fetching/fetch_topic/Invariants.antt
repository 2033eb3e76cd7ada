use Rattle.std.proofs.Common.{◌≡◌, ◌≤◌, ◌+◌, map, take}
use Rattle.kanswer.specs.BytesRead.{bytes_read, most_left}
use Rattle.kanswer.specs.Decisions.{fetch_decisions}
use Rattle.shared_calls.specs.Stand.{HasFetched, IsEven, stand}
use Rattle.shared_calls.proofs.fetching.fetch_topic.Given as goal

abbrev pub invariant-loop-part : goal.invariant-loop-part
invariant-loop-part g l = record {
  made : l.pass.made ≡ l.call.by.now.logs.now;
  come : HasFetched l.call.config.now l.call.by.now.seq (fetch_decisions l.call.config.now l.call.replica (map (λ part. (l.topic.name, part)) (take l.part-index l.topic.parts))) l.call.replica (take l.part-index l.topic.parts)
      (stand l.fn.pass l.fn.points l.fn.came) l.fn.budget (stand l.pass l.points l.came) l.budget;
  even : IsEven l.fn.came → IsEven l.came;
  room : bytes_read l.came.readings + most_left l.budget ≤ bytes_read l.fn.came.readings + most_left l.fn.budget;
}
