use Rattle.std.proofs.Common.{◌≡◌, ◌≤◌, ◌+◌, take}
use Rattle.kanswer.specs.Answer.{asked_parts}
use Rattle.kanswer.specs.Decisions.{fetch_decisions, fetch_parts}
use Rattle.kanswer.specs.BytesRead.{bytes_read, most_left}
use Rattle.shared_calls.specs.Stand.{HasFetched, IsEven, stand}
use Rattle.shared_calls.proofs.fetching.fetch_topics.Given as goal

abbrev pub invariant-loop-topic : goal.invariant-loop-topic
invariant-loop-topic g l = record {
  made : l.pass.made ≡ l.call.by.now.logs.now;
  come : HasFetched l.call.config.now l.call.by.now.seq (fetch_decisions l.call.config.now l.call.replica (fetch_parts (take l.topic-index l.topics))) l.call.replica (asked_parts (take l.topic-index l.topics))
      (stand l.fn.pass l.fn.points l.fn.came) l.fn.budget (stand l.pass l.points l.came) l.budget;
  even : IsEven l.fn.came → IsEven l.came;
  room : bytes_read l.came.readings + most_left l.budget ≤ bytes_read l.fn.came.readings + most_left l.fn.budget;
}
