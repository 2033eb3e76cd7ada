use Rattle.std.proofs.Common.{ap, rules}
use Rattle.kwire.specs.Views.{ask_of}
use Rattle.kanswer.proofs.ToldOnce.{produced_told, fetched_told}
use Rattle.kanswer.proofs.replies.told_to.Goals as goal

pub returns-in_ok-produced_topics-in-Produce : goal.returns-in_ok-produced_topics-in-Produce
returns-in_ok-produced_topics-in-Produce c =
    let a = c.in-Produce in
    λ shown are.
    produced_told c.args.config.now (ask_of c.args.ask.now) c.args.accepted.now c.args.readings.now shown are a.version a.acks a.timeout _ a.topics _ _ (ap ask_of a.is)
    (search rules) (search rules) c.as_slice.ensures c.in_ok-produced_topics-in-Produce.ensures

pub returns-in_ok-fetched_topics-in-Fetch : goal.returns-in_ok-fetched_topics-in-Fetch
returns-in_ok-fetched_topics-in-Fetch c =
    let a = c.in-Fetch in
    λ shown are.
    fetched_told c.args.config.now (ask_of c.args.ask.now) c.args.accepted.now c.args.readings.now shown are a.version a.replica a.max_wait a.min_bytes a.max_bytes a.isolation a.topics _ _ (ap ask_of a.is)
    (search rules) (search rules) c.as_slice-in-Fetch.ensures c.in_ok-fetched_topics-in-Fetch.ensures
